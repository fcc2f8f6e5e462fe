-- The rows of `apply` and `backchain`, by what is asked in them.
use Rattle.std.specs.Prelude.{Bool, false, Option, Some, None, nat_lt}
use Rattle.std.proofs.Common.{◌≡◌, inl, inr, ℕ, List, [], ◌∷◌, ◌++◌, map, length, refl, subst}
use Rattle.ab_term.specs.Terms.{Read}
use Rattle.ab_grammar.specs.CommandTrees as told
use Rattle.ab_grammar.specs.CommandTrees.{Instance, Argument}
use Rattle.ab_formulas.specs.Declarations.{Declarations}
use Rattle.ab_formulas.specs.Marks.{MarksServeIn}
use Rattle.ab_formulas.specs.NewNames.{Label}
use Rattle.ab_formulas.specs.Sequents.{Sequent, proving}
use Rattle.ab_theory.specs.Pieces.{Piece, Given, pieces, behind, antecedent_count, AllServe}
use Rattle.ab_theory.specs.UseAnswers.{Using, awaited, result_in}
use Rattle.ab_effects.specs.ProofCommands.{effect, clashing, missing, repeated, marked_so, giving, left_to_show}
use Rattle.ab_meaning.specs.Refusals.{Refusal, clash, no_hypothesis, mark, names_spent}
use Rattle.ab_effects.specs.Row.{Row, leads, makes, Leads, Refuses}
use Rattle.ab_effects.specs.FormulaUses.{formula_named, names_in, formulas_in, using, OpenedBeside, NamelessBeside}
use Rattle.ab_hypothesis.specs.ab_steps.specs.ProofEffects.{RefusedBy}
use Rattle.ab_hypothesis.specs.ab_steps.specs.declared.fault.ProofCommandFault.{ProofCommandFault}
use Rattle.ab_proofcmd.specs.GivenTerms.{AreGiven, AreNotGiven}
use Rattle.ab_proofcmd.proofs.Given.{refused_by, given_leads, given_refuses, giving_refuses}
use Rattle.ab_proofcmd.specs.Questions.{IsLookedUp, MayApply, MayBackchain}

not_left : (u : Using) (k : Read → Row) (f : Refusal) → Refuses (left_to_show u (λ K. leads [])) f → Refuses (left_to_show u k) f
not_left u k f (inl n) = inl n
not_left u k f (inr (K, used, none)) = absurd none

-- APPLY
module _ (D : Declarations) (l : Label) (H : List ℕ) (vs : List Argument) (is : List Instance) (s : Sequent) where
  abbrev apply_row : Row
  apply_row = effect D l (told.apply H vs is) s

  pub apply_clash : (x : List ℕ) → clashing l s ≡ Some (clash x) → Refuses apply_row (clash x)
  apply_clash x taken = inl taken

  pub apply_unnamed : clashing l s ≡ None → formula_named D s H ≡ None → Refuses apply_row (no_hypothesis H)
  apply_unnamed free none = inr (free, inl (none, refl))

  module _ (F : Read) where
    abbrev hs : List (Option Read)
    hs = formulas_in s vs

    abbrev ps : List Piece
    ps = pieces (length vs) F

    abbrev many : Bool
    many = nat_lt (antecedent_count F) (length vs)

    abbrev use_in : List Given → Using
    use_in gs = using s gs ps (record { hypotheses = hs; conclusion = None }) F

    abbrev opened_row : List Given → Read → Row
    opened_row gs K =
        makes {A = Sequent} (OpenedBeside D gs (result_in hs K) l s) (λ f. NamelessBeside D gs (result_in hs K) l s × (f ≡ names_spent)) (λ t.
        leads (map (λ A. proving A s) (awaited hs K) ++ t ∷ []))

    abbrev served_row : List Given → Row
    served_row gs = marked_so (AllServe ps hs) (left_to_show (use_in gs) (opened_row gs))

    pub apply_missing : (x : List ℕ) → clashing l s ≡ None → formula_named D s H ≡ Some F → missing (names_in vs) s ≡ Some (no_hypothesis x) → Refuses apply_row (no_hypothesis x)
    apply_missing x free named gone = inr (free, inr (F, named, inl gone))

    pub apply_leads : (gs : List Given) (K : Read) → MayApply D l H vs is s F gs K → (t : Sequent) → OpenedBeside D gs (result_in hs K) l s t
        → Leads apply_row (map (λ A. proving A s) (awaited hs K) ++ t ∷ [])
    apply_leads gs K m t opened =
        let qs : List Sequent = map (λ A. proving A s) (awaited hs K) ++ t ∷ [] in
        (m.looked_up.free, (F, m.looked_up.named, (m.looked_up.there, given_leads D s ps is many gs served_row qs m.given (tt, m.serve, (K, m.used, (t, opened, refl))))))

    pub apply_nameless : (gs : List Given) (K : Read) → MayApply D l H vs is s F gs K → NamelessBeside D gs (result_in hs K) l s → Refuses apply_row names_spent
    apply_nameless gs K m nameless =
        inr (m.looked_up.free, inr (F, m.looked_up.named, inr (m.looked_up.there, given_refuses D s ps is many gs served_row names_spent m.given (inr (tt, m.serve, inr (K, m.used, inl (nameless, refl)))))))

    module _ (up : IsLookedUp D l H vs s F) where
      pub apply_ungiven : (fault : ProofCommandFault) → AreNotGiven D s ps is many fault → RefusedBy apply_row fault
      apply_ungiven =
          refused_by (giving D s ps is many (λ gs. leads [])) apply_row
          (λ f r. inr (up.free, inr (F, up.named, inr (up.there, giving_refuses D s ps is many served_row f r))))

      pub apply_unserved : (gs : List Given) → AreGiven D s ps is many gs → ¬ AllServe ps hs → Refuses apply_row mark
      apply_unserved gs g none = inr (up.free, inr (F, up.named, inr (up.there, given_refuses D s ps is many gs served_row mark g (inl (none, refl)))))

      pub apply_unused : (gs : List Given) → AreGiven D s ps is many gs → AllServe ps hs → (fault : ProofCommandFault) → RefusedBy (left_to_show (use_in gs) (λ K. leads [])) fault
          → RefusedBy apply_row fault
      apply_unused gs g serve =
          refused_by (left_to_show (use_in gs) (λ K. leads [])) apply_row
          (λ f r. inr (up.free, inr (F, up.named, inr (up.there, given_refuses D s ps is many gs served_row f g (inr (tt, serve, not_left (use_in gs) (opened_row gs) f r))))))

-- BACKCHAIN
module _ (D : Declarations) (l : Label) (H : List ℕ) (is : List Instance) (s : Sequent) where
  abbrev back_row : Row
  back_row = effect D l (told.backchain H is) s

  pub backchain_unnamed : formula_named D s H ≡ None → Refuses back_row (no_hypothesis H)
  backchain_unnamed none = inl (none, refl)

  module _ (F : Read) where
    abbrev n : ℕ
    n = antecedent_count F

    abbrev back_parts : List Piece
    back_parts = pieces n F

    abbrev back_left : Read → Row
    back_left K = leads (map (λ A. proving A s) (awaited (repeated n) K))

    abbrev back_use : List Given → Using
    back_use gs = using s gs back_parts (record { hypotheses = repeated n; conclusion = Some s.conclusion }) F

    abbrev served_back : List Given → Row
    served_back gs = marked_so (MarksServeIn s.conclusion (behind n F)) (left_to_show (back_use gs) back_left)

    pub backchain_leads : (gs : List Given) (K : Read) → MayBackchain D H is s F gs K → Leads back_row (map (λ A. proving A s) (awaited (repeated n) K))
    backchain_leads gs K m =
        (F, m.named, given_leads D s back_parts is false gs served_back (map (λ A. proving A s) (awaited (repeated n) K)) m.given (tt, m.serve, (K, m.used, refl)))

    module _ (named : formula_named D s H ≡ Some F) where
      pub backchain_ungiven : (fault : ProofCommandFault) → AreNotGiven D s back_parts is false fault → RefusedBy back_row fault
      backchain_ungiven =
          refused_by (giving D s back_parts is false (λ gs. leads [])) back_row
          (λ f r. inr (F, named, giving_refuses D s back_parts is false served_back f r))

      pub backchain_unserved : (gs : List Given) → AreGiven D s back_parts is false gs → ¬ MarksServeIn s.conclusion (behind n F) → Refuses back_row mark
      backchain_unserved gs g none = inr (F, named, given_refuses D s back_parts is false gs served_back mark g (inl (none, refl)))

      pub backchain_unused : (gs : List Given) → AreGiven D s back_parts is false gs → MarksServeIn s.conclusion (behind n F) → (fault : ProofCommandFault)
          → RefusedBy (left_to_show (back_use gs) (λ K. leads [])) fault → RefusedBy back_row fault
      backchain_unused gs g serve =
          refused_by (left_to_show (back_use gs) (λ K. leads [])) back_row
          (λ f r. inr (F, named, given_refuses D s back_parts is false gs served_back f g (inr (tt, serve, not_left (back_use gs) back_left f r))))
