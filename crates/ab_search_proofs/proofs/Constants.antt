-- The step at `nabla`.
use Rattle.std.proofs.Common.{◌≡◌, ◌≢◌, inr, ℕ, List, [], ◌∷◌, map, codes, Some, refl, sym, ◌∙◌, ap, subst}
use Rattle.std.specs.Prelude.{All, AllPairs, Contains}
use Rattle.std.proofs.lemmas.List.Elements.{All-nil}
use Rattle.std.proofs.lemmas.List.Kept.{AllPairs-cons}
use Rattle.ab_term.specs.Types.{Ty}
use Rattle.ab_term.specs.Terms.{Nominal, Variable, nominal, no_terms, Read}
use Rattle.ab_term.specs.Typing.{HasType}
use Rattle.ab_term.specs.Names.{support, rename, permute, moved_by}
use Rattle.ab_term.specs.Translation.{forget}
use Rattle.ab_term.specs.Substitution.{instance}
use Rattle.ab_term.specs.Expansion.{expansion}
use Rattle.ab_term.specs.Variables.{Substitution, value_in, image}
use Rattle.ab_term.specs.Sameness.{same_number}
use Rattle.ab_term.proofs.Compositions.{image-instance}
use Rattle.ab_term.proofs.Depends.{image_rigid}
use Rattle.ab_term.proofs.Expansions.{expansion_typed}
use Rattle.ab_term.proofs.Lists.{AllPairs-none}
use Rattle.ab_term.proofs.Permuting.{Each, OfOneType, up_to_names-instance}
use Rattle.ab_term.proofs.Renamings.{rename-expansion_of}
use Rattle.ab_term.proofs.Stands.{variables-expansion_of}
use Rattle.ab_unifiers.specs.Clauses.{name_term}
use Rattle.ab_formulas.specs.Declarations.{Declarations, signature_in}
use Rattle.ab_formulas.specs.Forms.{nabla, form_of, as_nabla, nabla_in}
use Rattle.ab_formulas.specs.GoalTerms.{HoldsOnly}
use Rattle.ab_formulas.specs.NewNames.{IsLeast}
use Rattle.ab_formulas.specs.Sequents.{Sequent, proving}
use Rattle.ab_theory.specs.Steps.{nabla_right}
use Rattle.ab_theory.specs.Rules as rules
use Rattle.ab_theory.specs.Rules.{MayName}
use Rattle.ab_search_proofs.specs.Likeness.{StandIn, replaced, replacing, IsLike, IsLikeGoal, AreLike}
use Rattle.ab_search_proofs.specs.Taking.{LeadsTo}
use Rattle.ab_search_proofs.proofs.Parts.{instance_part}
use Rattle.ab_search_proofs.proofs.Alike.{like_nabla, nabla_known}
use Rattle.ab_search_proofs.proofs.StandIns.{stand_ins_typed, stand_ins_nameless, under_support}
use Rattle.ab_search_proofs.proofs.Extending.{Free, changed, changed_permutes, changed_same, changed_sends}
use Rattle.ab_search_proofs.proofs.Least.{least_constant}
use Rattle.ab_search_proofs.proofs.Taken.{leads_to}
use Rattle.ab_search_proofs.proofs.Connectives.{like_proving, same_option}

-- a constant as a term holds no variable, and is another constant's once that takes its place
pub constant_rigid : (r : Substitution ℕ (List ℕ)) (a : Nominal) → image same_number r (name_term (codes "x") a) ≡ name_term (codes "x") a
constant_rigid r a = image_rigid (value_in same_number r) (name_term (codes "x") a) (variables-expansion_of (codes "x") a.type (nominal a) no_terms)

pub constant_moved : (m : Nominal → Nominal) (a b : Nominal) → m a ≡ b → a.type ≡ b.type → rename m (name_term (codes "x") a) ≡ name_term (codes "x") b
constant_moved m a b e t = rename-expansion_of m (codes "x") a.type (nominal a) no_terms ∙ ap (λ c. expansion (codes "x") a.type (nominal c)) e ∙ ap (λ A. expansion (codes "x") A (nominal b)) t

pub constant_known : (ys : List (Variable ℕ)) (a : Nominal) → HoldsOnly ys (name_term (codes "x") a)
constant_known ys a = subst (All (Contains ys)) (sym (variables-expansion_of (codes "x") a.type (nominal a) no_terms)) (All-nil (Contains ys))

AllPairs-one : (a : Nominal) → AllPairs (λ b c. b ≢ c) (a ∷ [])
AllPairs-one a = AllPairs-cons (λ b c. b ≢ c) a [] (All-nil (λ b. a ≢ b)) (AllPairs-none (λ b c. b ≢ c))

nabla_scope : {A B : Ty} {F H : Read} → nabla A F ≡ nabla B H → F ≡ H
nabla_scope {F = F} {H = H} e = let q : F ≡ H = cc in q

module _ (D : Declarations) (vs : List StandIn) (Hs : List Read) (C : Read) (s : Sequent) (l : IsLikeGoal D vs Hs C s) where
  abbrev r : Substitution ℕ (List ℕ)
  r = replacing vs

  abbrev there : Read
  there = image same_number r C

  -- whatever constant is taken
  pub constant_like : (A : Ty) (F H : Read) (a b : Nominal) → form_of C ≡ nabla A F → a.type ≡ A → b.type ≡ A → ¬ Contains (support C) a → ¬ Contains (support s.conclusion) b
      → form_of s.conclusion ≡ nabla A H → IsLike D vs (instance F (name_term (codes "x") a)) (instance H (name_term (codes "x") b))
  constant_like A F H a b e at bt out away eh =
      let sg = signature_in D in
      let typed = stand_ins_typed s vs l.variables sg in
      let ps = (l.conclusion.same).0 in
      let table = (l.conclusion.same).1 in
      let whole = (l.conclusion.same).2 in
      let types : OfOneType (a ∷ []) (b ∷ []) = (at ∙ sym bt, tt) in
      let alone_a = AllPairs-one a in
      let alone_b = AllPairs-one b in
      let free : Each (Free ps table there s.conclusion whole) (a ∷ []) (b ∷ []) = (inr ((λ m. out (under_support r (stand_ins_nameless s vs l.variables) C a m)), away), tt) in
      let qs = changed ps table there s.conclusion whole (a ∷ []) (b ∷ []) types alone_a alone_b free in
      let permutes = changed_permutes ps table there s.conclusion whole (a ∷ []) (b ∷ []) types alone_a alone_b free in
      let again : IsLike D vs C s.conclusion = record { formula = l.conclusion.formula; known = l.conclusion.known; same = (qs, permutes, changed_same ps table there s.conclusion whole (a ∷ []) (b ∷ []) types alone_a alone_b free) } in
      let sends = changed_sends ps table there s.conclusion whole (a ∷ []) (b ∷ []) types alone_a alone_b free in
      let k = like_nabla D vs C s.conclusion A F again e in
      let same_scope : k.0 ≡ H = nabla_scope (sym k.1 ∙ eh) in
      let scope = nabla_known D vs C s.conclusion A F l.conclusion e in
      let name_typed : HasType sg [] (name_term (codes "x") a) A = subst (HasType sg [] (name_term (codes "x") a)) at (expansion_typed sg (codes "x") a.type [] (nominal a) refl) in
      let split : image same_number r (instance F (name_term (codes "x") a)) ≡ instance (image same_number r F) (name_term (codes "x") a) =
      image-instance sg same_number r typed scope.typed name_typed ∙ ap (instance (image same_number r F)) (constant_rigid r a) in
      let part = instance_part sg (map replaced vs) scope name_typed (constant_known (map replaced vs) a) in
      record {
        formula = part.formula;
        known = part.known;
        same = (
          qs,
          permutes,
          ap (λ t. forget (permute qs t)) split
              ∙ up_to_names-instance qs (image same_number r F) (name_term (codes "x") a) H (name_term (codes "x") b) (k.2 ∙ ap forget same_scope) (ap forget (constant_moved (moved_by qs) a b sends.0 (at ∙ sym bt))),
        );
      }

  pub constant_step : (A : Ty) (F : Read) (a : Nominal) → form_of C ≡ nabla A F → a.type ≡ A → ¬ Contains (support C) a → LeadsTo D nabla_right s (AreLike D vs Hs (instance F (name_term (codes "x") a) ∷ []))
  constant_step A F a e at out =
      let k = like_nabla D vs C s.conclusion A F l.conclusion e in
      let q : as_nabla s.conclusion ≡ Some (A, k.0) = ap nabla_in k.1 in
      let n = least_constant s s.conclusion A in
      leads_to D nabla_right s (AreLike D vs Hs (instance F (name_term (codes "x") a) ∷ []))
      (λ cells are. (proving (instance k.0 (rules.name_term (record { number = n.0; type = A }))) s ∷ [], ((A, k.0), q, (n.0, n.1, refl))))
      (λ cells are i f. f.2)
      (λ cells are ps h.
      let p : h.0 ≡ (A, k.0) = same_option (sym h.1 ∙ q) in
      let may : IsLeast (MayName s s.conclusion A) (h.2).0 = subst (λ (z : Ty × Read). IsLeast (MayName s s.conclusion z.0) (h.2).0) p (h.2).1 in
      let b : Nominal = record { number = (h.2).0; type = A } in
      let next : Read = instance k.0 (name_term (codes "x") b) in
      subst (AreLike D vs Hs (instance F (name_term (codes "x") a) ∷ [])) (sym ((h.2).2 ∙ ap (λ (z : Ty × Read). proving (instance z.1 (rules.name_term (record { number = (h.2).0; type = z.0 }))) s ∷ []) p))
      (like_proving D vs Hs C (instance F (name_term (codes "x") a)) next s l (constant_like A F k.0 a b e at refl out (may.has).outside k.1), tt))
