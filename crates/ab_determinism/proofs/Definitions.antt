-- What a definition declares is one thing, and it is refused for one cause, and never both.
use Rattle.std.specs.Prelude.{None, Ok, Err, Bool, All}
use Rattle.std.proofs.Common.{◌≡◌, ℕ, List, [], ◌∷◌, ◌++◌, map, sym, ◌∙◌, ap, subst}
use Rattle.std.proofs.lemmas.List.Elements.{All-head, All-tail}
use Rattle.ab_term.specs.Constants.{Constant, names}
use Rattle.ab_grammar.specs.CommandTrees.{Defined, Clause}
use Rattle.ab_formulas.specs.Clauses as kept
use Rattle.ab_formulas.specs.Faults.{IsRight, FirstFault}
use Rattle.ab_determinism.proofs.Faults.{one_first_fault, no_fault}
use Rattle.ab_formulas.specs.Declarations.{Declarations, a_block, constant_names}
use Rattle.ab_logic.specs.Worlds.{defined}
use Rattle.ab_meaning.specs.Terms.{kinds_in}
use Rattle.ab_states.specs.ab_specification.specs.ab_declare.specs.declared.refusal.Refusal.{Refusal}
use Rattle.ab_states.specs.ab_specification.specs.ab_declare.specs.declared.refusal.Refusal.TheVariants.{Unknown}
use Rattle.ab_states.specs.ab_specification.specs.ab_declare.specs.DefinitionCommands.{FirstTold, this, later, predicates_found, predicate_of, signature_with, block_with, refusal_of, IsPredicateType, IsPredicate, IsNoPredicate, IsNamed, IsUnnamed, MeanKept, IsRead, IsUnread, HasPredicates, HasNames, HasTypes, Defines, DefinesNothing, predicate_unnamed, clause_unnamed, no_predicate, clause_unread, faulty}
use Rattle.ab_determinism.proofs.Clauses.{same_clauses, all_read, read_or_not, one_cause}

-- THE FIRST of some things of which something is told
module _ {X : Type 0} (IsFine : X → Type 0) (Tells : X → Refusal → Type 0) (apart : (x : X) (r : Refusal) → IsFine x → Tells x r → ⊥) where
  all_or_first : (xs : List X) (r : Refusal) → All IsFine xs → FirstTold IsFine Tells xs r → ⊥
  all_or_first (x ∷ xs) r all (this t) = apart x r (All-head IsFine x xs all) t
  all_or_first (x ∷ xs) r all (later f rest) = all_or_first xs r (All-tail IsFine x xs all) rest
  all_or_first [] r all t = elim t [ ]

  module _ (once : (x : X) (r q : Refusal) → Tells x r → Tells x q → r ≡ q) where
    one_first : (xs : List X) (r q : Refusal) → FirstTold IsFine Tells xs r → FirstTold IsFine Tells xs q → r ≡ q
    one_first (x ∷ xs) r q (this t) (this u) = once x r q t u
    one_first (x ∷ xs) r q (this t) (later f rest) = absurd (apart x r f t)
    one_first (x ∷ xs) r q (later f rest) (this u) = absurd (apart x q f u)
    one_first (x ∷ xs) r q (later f a) (later g b) = one_first xs r q a b
    one_first [] r q t u = elim t [ ]

-- predicates

predicate_or_not : (ks : List (List ℕ)) (d : Defined) (r : Refusal) → IsPredicate ks d → IsNoPredicate ks d r → ⊥
predicate_or_not ks d r (A, w, fit) (B, v, unfit, is) =
    let both : Ok A ≡ Ok B = sym w ∙ v in
    let same : A ≡ B = cc in
    unfit (subst IsPredicateType same fit)

one_unfit : (ks : List (List ℕ)) (d : Defined) (r q : Refusal) → IsNoPredicate ks d r → IsNoPredicate ks d q → r ≡ q
one_unfit ks d r q a b = a.3 ∙ sym b.3

-- names of clauses
module _ (ps : List Constant) (D : Declarations) where
  named_or_not : (c : Clause) (r : Refusal) → IsNamed (kinds_in D) (signature_with D ps) c → IsUnnamed (kinds_in D) (signature_with D ps) c r → ⊥
  named_or_not c r (e, x) (y, h, is) = let bad : Ok e ≡ Err y = sym x ∙ h in cc

  one_unnamed : (c : Clause) (r q : Refusal) → IsUnnamed (kinds_in D) (signature_with D ps) c r → IsUnnamed (kinds_in D) (signature_with D ps) c q → r ≡ q
  one_unnamed c r q (x, h, is) (y, k, too) =
      let both : Err x ≡ Err y = sym h ∙ k in
      let one : x ≡ y = cc in
      is ∙ ap (λ z. Unknown z None) one ∙ sym too

module _ (D : Declarations) (inductive : Bool) (ds : List Defined) (cs : List Clause) where
  abbrev ks : List (List ℕ)
  ks = kinds_in D

  same_predicates : (ps qs : List Constant) → HasPredicates D ds cs ps → HasPredicates D ds cs qs → qs ≡ ps
  same_predicates ps qs a b = let both : Ok qs ≡ Ok ps = sym b ∙ a in cc

  pub one_defining : (more others : Declarations) → Defines D inductive ds cs more → Defines D inductive ds cs others → more ≡ others
  one_defining more others a b =
      let ps = a.predicates in
      let same = same_predicates ps b.predicates a.types.0.0 b.types.0.0 in
      let one = same_clauses ks (signature_with D ps) cs a.clauses b.clauses a.meant (subst (λ qs. MeanKept ks (signature_with D qs) cs b.clauses) same b.meant) in
      a.is
      ∙ (ap (λ ls. map predicate_of ps ++ a_block (defined (block_with inductive ps ls)) ∷ []) one
      ∙ (ap (λ qs. map predicate_of qs ++ a_block (defined (block_with inductive qs b.clauses)) ∷ []) (sym same) ∙ sym b.is))

  -- what is known of the names, the types and the clauses, where it is known that the predicates were found
  module _ (ps : List Constant) where
    no_unnamed : (r : Refusal) → All (IsNamed ks (signature_with D ps)) cs → FirstTold (IsNamed ks (signature_with D ps)) (IsUnnamed ks (signature_with D ps)) cs r → ⊥
    no_unnamed r = all_or_first (IsNamed ks (signature_with D ps)) (IsUnnamed ks (signature_with D ps)) (named_or_not ps D) cs r

    no_unfit : (r : Refusal) → All (IsPredicate ks) ds → FirstTold (IsPredicate ks) (IsNoPredicate ks) ds r → ⊥
    no_unfit r = all_or_first (IsPredicate ks) (IsNoPredicate ks) (predicate_or_not ks) ds r

    no_unread : (r : Refusal) (ls : List kept.Clause) → MeanKept ks (signature_with D ps) cs ls → FirstTold (IsRead ks (signature_with D ps)) (IsUnread ks (signature_with D ps)) cs r → ⊥
    no_unread r ls m = all_or_first (IsRead ks (signature_with D ps)) (IsUnread ks (signature_with D ps)) (read_or_not ks (signature_with D ps)) cs r (all_read ks (signature_with D ps) cs ls m)

  -- how far the fault is from the command's beginning
  to_names : (ps qs : List Constant) → HasPredicates D ds cs ps → HasNames D ds cs qs → HasNames D ds cs ps
  to_names ps qs a n = subst (λ z. HasNames D ds cs z) (same_predicates ps qs a n.0) n

  to_types : (ps qs : List Constant) → HasPredicates D ds cs ps → HasTypes D ds cs qs → HasTypes D ds cs ps
  to_types ps qs a n = subst (λ z. HasTypes D ds cs z) (same_predicates ps qs a n.0.0) n

  to_kept : (ps qs : List Constant) (ls : List kept.Clause) → HasPredicates D ds cs ps → HasPredicates D ds cs qs → MeanKept ks (signature_with D qs) cs ls → MeanKept ks (signature_with D ps) cs ls
  to_kept ps qs ls a b m = subst (λ z. MeanKept ks (signature_with D z) cs ls) (same_predicates ps qs a b) m

  none_found : {A : Type 0} (r : Refusal) (ps : List Constant) → predicates_found ks (constant_names D) ds ≡ Err r → HasPredicates D ds cs ps → A
  none_found r ps a b = let bad : Err r ≡ Ok ps = sym a ∙ b in absurd (cc)

  -- IT DEFINES, OR IS REFUSED

  pub defines_or_not : (more : Declarations) (r : Refusal) → Defines D inductive ds cs more → DefinesNothing D inductive ds cs r → ⊥
  defines_or_not more r a (predicate_unnamed e) = none_found r a.predicates e a.types.0.0
  defines_or_not more r a (clause_unnamed {ps = ps} h f) = no_unnamed ps r (to_names ps a.predicates h a.types.0).1 f
  defines_or_not more r a (no_predicate {ps = ps} h f) = no_unfit ps r a.types.1 f
  defines_or_not more r a (clause_unread {ps = ps} h f) = no_unread ps r a.clauses (to_kept ps a.predicates a.clauses h.0.0 a.types.0.0 a.meant) f
  defines_or_not more r a (faulty {ps = ps} {ks = ls} {f = f} h m g) =
      let same = same_predicates ps a.predicates h.0.0 a.types.0.0 in
      let one = same_clauses ks (signature_with D ps) cs ls a.clauses m (to_kept ps a.predicates a.clauses h.0.0 a.types.0.0 a.meant) in
      no_fault (names ps) 1 ls f g (subst (All (IsRight (names ps))) (sym one) (subst (λ z. All (IsRight (names z)) a.clauses) same a.right))

  pub one_refusal : (r q : Refusal) → DefinesNothing D inductive ds cs r → DefinesNothing D inductive ds cs q → r ≡ q
  one_refusal r q (predicate_unnamed e) (predicate_unnamed f) = let both : Err r ≡ Err q = sym e ∙ f in cc
  one_refusal r q (predicate_unnamed e) (clause_unnamed {ps = qs} h f) = none_found r qs e h
  one_refusal r q (predicate_unnamed e) (no_predicate {ps = qs} h f) = none_found r qs e h.0
  one_refusal r q (predicate_unnamed e) (clause_unread {ps = qs} h f) = none_found r qs e h.0.0
  one_refusal r q (predicate_unnamed e) (faulty {ps = qs} h m f) = none_found r qs e h.0.0
  one_refusal r q (clause_unnamed {ps = ps} h f) (predicate_unnamed e) = none_found q ps e h
  one_refusal r q (clause_unnamed {ps = ps} h f) (clause_unnamed {ps = qs} k g) =
      one_first (IsNamed ks (signature_with D ps)) (IsUnnamed ks (signature_with D ps)) (named_or_not ps D) (one_unnamed ps D) cs r q f
      (subst (λ z. FirstTold (IsNamed ks (signature_with D z)) (IsUnnamed ks (signature_with D z)) cs q) (same_predicates ps qs h k) g)
  one_refusal r q (clause_unnamed {ps = ps} h f) (no_predicate {ps = qs} k g) = absurd (no_unnamed ps r (to_names ps qs h k).1 f)
  one_refusal r q (clause_unnamed {ps = ps} h f) (clause_unread {ps = qs} k g) = absurd (no_unnamed ps r (to_names ps qs h k.0).1 f)
  one_refusal r q (clause_unnamed {ps = ps} h f) (faulty {ps = qs} k m g) = absurd (no_unnamed ps r (to_names ps qs h k.0).1 f)
  one_refusal r q (no_predicate {ps = ps} h f) (predicate_unnamed e) = none_found q ps e h.0
  one_refusal r q (no_predicate {ps = ps} h f) (clause_unnamed {ps = qs} k g) = absurd (no_unnamed qs q (to_names qs ps k h).1 g)
  one_refusal r q (no_predicate h f) (no_predicate k g) = one_first (IsPredicate ks) (IsNoPredicate ks) (predicate_or_not ks) (one_unfit ks) ds r q f g
  one_refusal r q (no_predicate {ps = ps} h f) (clause_unread k g) = absurd (no_unfit ps r k.1 f)
  one_refusal r q (no_predicate {ps = ps} h f) (faulty k m g) = absurd (no_unfit ps r k.1 f)
  one_refusal r q (clause_unread {ps = ps} h f) (predicate_unnamed e) = none_found q ps e h.0.0
  one_refusal r q (clause_unread {ps = ps} h f) (clause_unnamed {ps = qs} k g) = absurd (no_unnamed qs q (to_names qs ps k h.0).1 g)
  one_refusal r q (clause_unread h f) (no_predicate {ps = qs} k g) = absurd (no_unfit qs q h.1 g)
  one_refusal r q (clause_unread {ps = ps} h f) (clause_unread {ps = qs} k g) =
      one_first (IsRead ks (signature_with D ps)) (IsUnread ks (signature_with D ps)) (read_or_not ks (signature_with D ps)) (one_cause ks (signature_with D ps)) cs r q f
      (subst (λ z. FirstTold (IsRead ks (signature_with D z)) (IsUnread ks (signature_with D z)) cs q) (same_predicates ps qs h.0.0 k.0.0) g)
  one_refusal r q (clause_unread {ps = ps} h f) (faulty {ps = qs} {ks = ls} k m g) = absurd (no_unread ps r ls (to_kept ps qs ls h.0.0 k.0.0 m) f)
  one_refusal r q (faulty {ps = ps} h m f) (predicate_unnamed e) = none_found q ps e h.0.0
  one_refusal r q (faulty {ps = ps} h m f) (clause_unnamed {ps = qs} k g) = absurd (no_unnamed qs q (to_names qs ps k h.0).1 g)
  one_refusal r q (faulty h m f) (no_predicate {ps = qs} k g) = absurd (no_unfit qs q h.1 g)
  one_refusal r q (faulty {ps = ps} {ks = ls} h m f) (clause_unread {ps = qs} k g) = absurd (no_unread qs q ls (to_kept qs ps ls k.0.0 h.0.0 m) g)
  one_refusal r q (faulty {ps = ps} {ks = ls} {f = f} h m x) (faulty {ps = qs} {ks = ms} {f = g} k n y) =
      let same = same_predicates ps qs h.0.0 k.0.0 in
      let one = same_clauses ks (signature_with D ps) cs ms ls (to_kept ps qs ms h.0.0 k.0.0 n) m in
      ap refusal_of (one_first_fault (names ps) 1 ls f g x (subst (λ z. FirstFault (names ps) 1 z g) one (subst (λ z. FirstFault (names z) 1 ms g) same y)))
