-- Whether the parts of a conclusion may get sizes, and how the new hypotheses are named then.
use Rattle.std.specs.Prelude.{◌≡◌, ℕ, zero, suc, List, [], ◌∷◌, All, codes, Some, None, length}
use Rattle.ab_grammar.specs.CommandTrees.{ProofCommand, induction, coinduction}
use Rattle.ab_formulas.specs.Declarations.{Declarations}
use Rattle.ab_formulas.specs.Marks.{Sign, plain}
use Rattle.ab_formulas.specs.NewNames.{Label, auto, given}
use Rattle.ab_formulas.specs.Sequents.{Sequent, assuming}
use Rattle.ab_theory.specs.Conjuncts.{conjuncts}
use Rattle.ab_steps.specs.ab_kernel.specs.ab_judgements.specs.ab_alternatives.specs.ab_sequents.specs.Kinds.{signs_by}
use Rattle.ab_steps.specs.ab_kernel.specs.ab_judgements.specs.ab_alternatives.specs.ab_sequents.specs.declared.levels.Kind.{Kind}
use Rattle.ab_steps.specs.ab_kernel.specs.ab_judgements.specs.ab_alternatives.specs.ab_sequents.specs.declared.levels.Kind.TheVariants.{Induction, Coinduction}
use Rattle.ab_effects.specs.ProofCommands.{clashing, IsNamedBy}
use Rattle.ab_meaning.specs.Refusals.{clash}
use Rattle.ab_steps.specs.declared.fault.ProofCommandFault.{ProofCommandFault}
use Rattle.ab_steps.specs.declared.fault.ProofCommandFault.TheVariants.{Clash, WrongShape, Mark, Memory}

-- the command, where coinduction has no places; and the word that names its hypotheses

abbrev pub command_by : Kind → List ℕ → ProofCommand
command_by Induction ns = induction ns
command_by Coinduction ns = coinduction

abbrev pub word_by : Kind → List ℕ
word_by Induction = codes "IH"
word_by Coinduction = codes "CH"

-- the label names the first hypothesis, and the others are named by themselves
abbrev pub label_at : ℕ → Label → Label
label_at zero l = l
label_at (suc i) l = auto

-- so many hypotheses get these names, each in the goal that has those before it, and the first by the label: what they say
-- doesn't matter to that
abbrev pub AreNamedBy : List ℕ → Label → Sequent → ℕ → List Label → Type 0
AreNamedBy word l s zero ms = ms ≡ []
AreNamedBy word l s (suc n) ms =
    (name : List ℕ) × (more : List Label) × (ms ≡ given name ∷ more) × IsNamedBy word l s name × AreNamedBy word auto (assuming name s.conclusion s) n more

-- the label isn't in use, each part has something to get a size by, which has no mark, and the hypotheses get these labels
pub record MayGetSizes (D : Declarations) (l : Label) (s : Sequent) (k : Kind) (ns : List ℕ) (ms : List Label) : Type 0 where
  pub free : clashing l s ≡ None
  pub signs : List Sign
  pub there : signs_by k D ns (conjuncts s.conclusion) ≡ Some signs
  pub unmarked : All (λ m. m ≡ plain) signs
  pub named : AreNamedBy (word_by k) l s (length (conjuncts s.conclusion)) ms

-- the first of these that isn't so
abbrev pub GetsNoSizes : Declarations → Label → Sequent → Kind → List ℕ → ProofCommandFault → Type 0
GetsNoSizes D l s k ns (Clash x) = clashing l s ≡ Some (clash x)
GetsNoSizes D l s k ns WrongShape = (clashing l s ≡ None) × (signs_by k D ns (conjuncts s.conclusion) ≡ None)
GetsNoSizes D l s k ns Mark =
    (clashing l s ≡ None) × ((signs : List Sign) × (signs_by k D ns (conjuncts s.conclusion) ≡ Some signs) × (¬ All (λ m. m ≡ plain) signs))
GetsNoSizes D l s k ns (Memory f) = Unit {0}
GetsNoSizes D l s k ns _ = ⊥
