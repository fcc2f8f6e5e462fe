-- What the program's sequents stand for, over the numbers of a world's cells.
use Rattle.std.specs.Prelude.{map, All}
use Rattle.ab_logic.specs.Worlds.{read, Holds, HoldsCell, variable_of}
use Rattle.ab_formulas.specs.Sequents.{Hypothesis, Sequent}
use Rattle.ab_logic.specs.declared.world.World.{World}
use Rattle.ab_logic.specs.declared.sequent.Sequent.{Sequent as Kept}
use Rattle.ab_logic.specs.declared.sequent.Hypothesis.{Hypothesis as KeptHypothesis}

module _ (w : World) where
  abbrev pub hypothesis_of : KeptHypothesis → Hypothesis
  hypothesis_of h = record { name = h.name; formula = read w h.formula }

  -- THE READING of a sequent
  abbrev pub sequent_of : Kept → Sequent
  sequent_of s = record {
    variables = map (variable_of w) s.variables;
    hypotheses = map hypothesis_of s.hypotheses;
    conclusion = read w s.conclusion;
    counter = s.counter;
  }

  -- what it names is there
  pub record HoldsSequent (s : Kept) : Type 0 where
    pub variables : All (HoldsCell w) s.variables
    pub hypotheses : All (λ (h : KeptHypothesis). Holds w h.formula) s.hypotheses
    pub conclusion : Holds w s.conclusion
