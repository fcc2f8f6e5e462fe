-- A hypothesis of a sequent like a goal, and the sequent without it.
use Rattle.std.specs.Prelude.{All, Contains, if◌then◌else◌, bytes_eq}
use Rattle.std.proofs.Common.{◌≡◌, inl, inr, ℕ, List, [], ◌∷◌, map, Bool, true, false, Some, sym, ap, subst}
use Rattle.ab_term.specs.Terms.{Nominal, Read}
use Rattle.ab_term.specs.Names.{permute, moved_by, EqualUpToNames, IsPermutationTable}
use Rattle.ab_term.specs.Translation.{forget}
use Rattle.ab_term.specs.Variables.{image}
use Rattle.ab_term.specs.Sameness.{same_number}
use Rattle.ab_term.proofs.Lists.{Contains-none, Contains-cases, Contains-here, Contains-there}
use Rattle.ab_term.proofs.Permutations.{one_to_one}
use Rattle.ab_term.proofs.Renamings.{rename_typed}
use Rattle.ab_term.proofs.UpToNames.{up_to_names-symmetric, up_to_names-transitive}
use Rattle.ab_unifiers.specs.Clauses.{Each}
use Rattle.ab_formulas.specs.Declarations.{Declarations, signature_in}
use Rattle.ab_formulas.specs.Formulas.{a_formula}
use Rattle.ab_formulas.specs.Sequents.{Hypothesis, Sequent, IsSequent, formulas, formula_of, others, without}
use Rattle.ab_search_trees.proofs.Unmarked.{variables_rename}
use Rattle.ab_search_proofs.specs.Likeness.{StandIn, replaced, replacing, IsLike, IsLikeGoal}
use Rattle.ab_search_proofs.proofs.Connectives.{kept_stand_ins}
use Rattle.ab_search_proofs.proofs.Renamed.{rename_stands}
use Rattle.ab_search_proofs.proofs.Served.{found_by_name, like_hypothesis}
use Rattle.ab_search_proofs.proofs.StandIns.{rename-under, stand_ins_nameless}

module _ (D : Declarations) (vs : List StandIn) where
  -- IT IS TAKEN OUT
  pub record TakenOut (C B : Read) (s : Sequent) : Type 0 where
    pub name : List ℕ
    pub formula : Read
    pub found : formula_of s name ≡ Some formula
    pub like : IsLike D vs B formula
    pub rest : List Read
    pub left : IsLikeGoal D vs rest C (without name s)

  abbrev Rest : List Hypothesis → Type 0
  Rest hs = (Rs : List Read) × Each (IsLike D vs) Rs (formulas hs)

  others_like : (name : List ℕ) (Hs : List Read) (hs : List Hypothesis) → Each (IsLike D vs) Hs (formulas hs) → Rest (others hs name)
  others_like name [] [] e = ([], tt)
  others_like name [] (h ∷ hs) e = absurd e
  others_like name (A ∷ Hs) [] e = absurd e
  others_like name (A ∷ Hs) (h ∷ hs) e = go (bytes_eq h.name name) (others_like name Hs hs e.1)
    where
      go : (b : Bool) → Rest (others hs name) → Rest (if b then others hs name else (h ∷ others hs name))
      go true r = r
      go false r = (A ∷ r.0, (e.0, r.1))

  pub taken_out : (Hs : List Read) (C B : Read) (s : Sequent) → IsSequent D s → IsLikeGoal D vs Hs C s → Contains Hs B → TakenOut C B s
  taken_out Hs C B s is l m =
      let h = like_hypothesis D vs Hs s.hypotheses B l.hypotheses m in
      let r = others_like (h.0).name Hs s.hypotheses l.hypotheses in
      record {
        name = (h.0).name;
        formula = (h.0).formula;
        found = found_by_name s.hypotheses is.labels_differ h.0 h.1;
        like = h.2;
        rest = r.0;
        left = record { variables = kept_stand_ins vs s (without (h.0).name s) (λ x n. n) l.variables; hypotheses = r.1; conclusion = l.conclusion };
      }

  -- WITH OTHER CONSTANTS it is as like
  module _ (ps : List (Nominal × Nominal)) (table : IsPermutationTable ps) where
    renamed_like : (s : Sequent) (Hs : List Read) (C B G : Read) → IsLikeGoal D vs Hs C s → IsLike D vs B G → IsLike D vs (permute ps B) G
    renamed_like s Hs C B G l k =
        let r = replacing vs in
        let here = image same_number r B in
        let there = image same_number r (permute ps B) in
        let sent : EqualUpToNames here there = (ps, table, ap forget (rename-under r (stand_ins_nameless s vs l.variables) (moved_by ps) B)) in
        record {
          formula = record { typed = rename_typed (signature_in D) (moved_by ps) (λ a. (one_to_one ps table).keeps a) k.formula.typed; stands = rename_stands (moved_by ps) a_formula B k.formula.stands };
          known = subst (All (Contains (map replaced vs))) (sym (variables_rename (moved_by ps) B)) k.known;
          same = up_to_names-transitive there here G (up_to_names-symmetric here there sent) k.same;
        }

    exchanged : (s : Sequent) (Ks : List Read) (C : Read) → IsLikeGoal D vs Ks C s → (Hs Gs : List Read) (B : Read) → Each (IsLike D vs) Hs Gs → Contains Hs B → (Rs : List Read) × Contains Rs (permute ps B) × Each (IsLike D vs) Rs Gs
    exchanged s Ks C l [] Gs B e m = absurd (Contains-none B m)
    exchanged s Ks C l (A ∷ Hs) [] B e m = absurd e
    exchanged s Ks C l (A ∷ Hs) (G ∷ Gs) B e m = elim (Contains-cases A Hs B m) [
      | inl q ↦ (permute ps B ∷ Hs, Contains-here (permute ps B) Hs, (renamed_like s Ks C B G l (subst (λ k. IsLike D vs k G) q e.0), e.1))
      | inr n ↦ let r = exchanged s Ks C l Hs Gs B e.1 n in (A ∷ r.0, Contains-there A r.0 (permute ps B) r.1, (e.0, r.2))
    ]

    pub with_other_constants : (Hs : List Read) (C B : Read) (s : Sequent) → IsLikeGoal D vs Hs C s → Contains Hs B → (Rs : List Read) × Contains Rs (permute ps B) × IsLikeGoal D vs Rs C s
    with_other_constants Hs C B s l m =
        let r = exchanged s Hs C l Hs (formulas s.hypotheses) B l.hypotheses m in
        (r.0, r.1, record { variables = l.variables; hypotheses = r.2; conclusion = l.conclusion })
