-- JUDGEMENTS of the specification logic, as far as a search looks into them: where it can't, a layer that is opened, and the
-- rules by which it goes on.
use Rattle.std.specs.Prelude.{ℕ, zero, List, [], Bool, true, false, cond, ◌||◌, Option, Some, None}
use Rattle.std.specs.List.{list_any}
use Rattle.ab_term.specs.Logical.{judgement, focused_judgement, nabla, spec_universal, spec_implication, spec_conjunction, hash}
use Rattle.ab_term.specs.Terms.{Variable, logical, lam, spine, no_terms, term, Read}
use Rattle.ab_term.specs.Substitution.{shift}
use Rattle.ab_unifiers.specs.Replacements.{is_flexible}
use Rattle.ab_unifiers.specs.Member.{before}
use Rattle.ab_formulas.specs.Declarations.{Declarations}
use Rattle.ab_formulas.specs.Marks.{plain}
use Rattle.ab_formulas.specs.Programs.{program_in}
use Rattle.ab_theory.specs.Judgements.{Judgement, marked_judgement}
use Rattle.ab_theory.specs.Opening.{both, Kind, compound, kind_of}
use Rattle.ab_theory.specs.Parts.{Part, parts_of}
use Rattle.ab_theory.specs.SpecRules.{SpecRule, rules_of}

-- `{L |- G}`
abbrev pub judged : Read → Read → Read
judged = marked_judgement plain

-- ONE LAYER of a goal, where its head is `&`, `=>` or `pi`: `{L |- F & G}` is `{L |- F} /\ {L |- G}`, `{L |- F => G}` is
-- `{F :: L |- G}`, and `{L |- pi x\ G}` is `nabla x, {L |- G}`
abbrev pub layer_of : Read → Read → Option Read
layer_of L (spine (logical spec_conjunction) (term F (term G no_terms))) = Some (both (judged L F) (judged L G))
layer_of L (spine (logical spec_implication) (term F (term G no_terms))) = Some (judged (before F L) G)
layer_of L (spine (logical (spec_universal A)) (term (lam B x G) no_terms)) = Some (spine (logical (nabla A)) (term (lam A x (judged (shift zero L) G)) no_terms))
layer_of L G = None

-- the formula, if it is an unmarked judgement whose goal has a layer, with that layer opened
abbrev pub opened_once : Read → Option Read
opened_once (spine (logical judgement) (term L (term G no_terms))) = layer_of L G
opened_once F = None

-- the term has a variable for its head that may be replaced
abbrev pub hides_head : List (Variable ℕ) → Read → Bool
hides_head ys (spine h ts) = is_flexible ys h
hides_head ys (lam B x F) = false

abbrev pub hides : List (Variable ℕ) → Read → Bool
hides ys (spine (logical judgement) (term L (term G no_terms))) = hides_head ys G
hides ys (spine (logical focused_judgement) (term L (term F (term A no_terms)))) = list_any (λ (p : Part). hides_head ys p.atom) (parts_of F) || hides_head ys A
hides ys F = false

-- THE SEARCH IS BLIND for the formula: it is a judgement, unmarked or marked `#`, and its goal, or a part of its focused
-- formula, has such a head
abbrev pub is_blind : List (Variable ℕ) → Read → Bool
is_blind ys (spine (logical (hash i)) (term F no_terms)) = hides ys F
is_blind ys F = hides ys F

-- nothing is in focus, and the goal is made of others
abbrev pub opens_by_layers : Option Read → Kind → Bool
opens_by_layers None compound = true
opens_by_layers _ _ = false

abbrev pub known : Option (List SpecRule) → List SpecRule
known None = []
known (Some rs) = rs

-- THE RULES by which the search goes on from a judgement, in order: those by which it may hold; but a goal that is made of
-- others is opened layer by layer, and by no rule
abbrev pub search_rules : Declarations → Judgement → List SpecRule
search_rules D j = cond (opens_by_layers j.focus (kind_of j.goal)) [] (known (rules_of (program_in D) j))
