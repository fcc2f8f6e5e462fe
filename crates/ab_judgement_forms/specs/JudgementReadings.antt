-- What the program's judgements stand for.
use Rattle.std.specs.Prelude.{List, [], ◌∷◌, ◌++◌, Option, Some, None, IfSome}
use Rattle.std.specs.Option.{option_map}
use Rattle.ab_norm.specs.ab_store.specs.declared.node.TermId.{TermId}
use Rattle.ab_logic.specs.Forms.{sign_of}
use Rattle.ab_logic.specs.Worlds.{read, Holds}
use Rattle.ab_logic.specs.declared.world.World.{World}
use Rattle.ab_theory.specs.Judgements.{Judgement}
use Rattle.ab_judgement_forms.specs.declared.judgements.Judgement.{Judgement as Kept}

-- THE READING of a judgement
abbrev pub judgement_read : World → Kept → Judgement
judgement_read w j = record {
  sign = sign_of j.sign;
  context = read w j.context;
  focus = option_map (read w) j.focus;
  goal = read w j.goal;
}

-- what it names is there
pub record HoldsJudgement (w : World) (j : Kept) : Type 0 where
  pub context : Holds w j.context
  pub focus : IfSome j.focus (Holds w)
  pub goal : Holds w j.goal

-- THE TERMS of a judgement: its list, the formula in focus where there is one, and its goal

abbrev pub focus_in : Option TermId → List TermId
focus_in None = []
focus_in (Some F) = F ∷ []

abbrev pub terms_in : Kept → List TermId
terms_in j = j.context ∷ focus_in j.focus ++ j.goal ∷ []
