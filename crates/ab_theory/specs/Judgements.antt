-- JUDGEMENTS of the specification logic. `{L |- G}`: the goal G follows from the program's clauses and the formulas of the
-- list L. `{L, [F] |- A}`: it follows so, by the formula F first.
use Rattle.std.specs.Prelude.{List, [], ◌++◌, Option, Some, None}
use Rattle.ab_term.specs.Logical.{judgement, focused_judgement}
use Rattle.ab_term.specs.Terms.{Nominal, logical, spine, no_terms, term, Read}
use Rattle.ab_term.specs.Names.{support}
use Rattle.ab_unifiers.specs.Choices.{in_order}
use Rattle.ab_formulas.specs.Forms.{Form, marked, other, form_of}
use Rattle.ab_formulas.specs.Marks.{Sign, plain}
use Rattle.ab_formulas.specs.BodyMarks.{with_mark}

pub record Judgement : Type 0 where
  pub sign : Sign
  -- the list
  pub context : Read
  -- the formula in focus, where there is one
  pub focus : Option Read
  pub goal : Read

abbrev pub judgement_as : Sign → Read → Option Judgement
judgement_as m (spine (logical judgement) (term L (term G no_terms))) = Some (record { sign = m; context = L; focus = None; goal = G })
judgement_as m (spine (logical focused_judgement) (term L (term F (term A no_terms)))) = Some (record { sign = m; context = L; focus = Some F; goal = A })
judgement_as m _ = None

abbrev pub judgement_in : Form → Read → Option Judgement
judgement_in (marked m t) F = judgement_as m t
judgement_in other F = judgement_as plain F
judgement_in _ F = None

-- THE JUDGEMENT that the formula is, if it is one
abbrev pub as_judgement : Read → Option Judgement
as_judgement F = judgement_in (form_of F) F

-- list and goal, where nothing is in focus
abbrev pub unless_focused : Option Read → Read × Read → Option (Read × Read)
unless_focused None p = Some p
unless_focused (Some F) p = None

abbrev pub parts_unfocused : Option Judgement → Option (Read × Read)
parts_unfocused None = None
parts_unfocused (Some j) = unless_focused j.focus (j.context, j.goal)

-- THE LIST AND THE GOAL of the unfocused judgement that the formula is, if it is one
abbrev pub as_unfocused : Read → Option (Read × Read)
as_unfocused F = parts_unfocused (as_judgement F)

-- the judgements themselves, with the mark

abbrev pub marked_judgement : Sign → Read → Read → Read
marked_judgement m L G = with_mark m (spine (logical judgement) (term L (term G no_terms)))

abbrev pub marked_focus : Sign → Read → Read → Read → Read
marked_focus m L F A = with_mark m (spine (logical focused_judgement) (term L (term F (term A no_terms))))

abbrev pub support_of_focus : Option Read → List Nominal
support_of_focus None = []
support_of_focus (Some F) = support F

-- the nominal constants of a judgement, in order
abbrev pub constants_of : Judgement → List Nominal
constants_of j = in_order (support j.context ++ (support_of_focus j.focus ++ support j.goal))
