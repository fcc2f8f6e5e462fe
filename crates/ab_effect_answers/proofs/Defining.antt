-- Each definition defines predicates, or there is a first fault of it.
use Rattle.std.specs.Prelude.{bytes_eq, if◌then◌else◌}
use Rattle.std.specs.List.{list_any}
use Rattle.std.proofs.Common.{◌≡◌, ◌⊎◌, inl, inr, ℕ, zero, suc, Bool, true, false, List, [], ◌∷◌, ◌++◌, Contains, All, None, Result, Ok, Err, refl, ap, subst, arith}
use Rattle.std.proofs.lemmas.List.Elements.{All-nil, All-cons, All-head, All-tail}
use Rattle.ab_term.specs.Types.{Ty, prop}
use Rattle.ab_term.specs.Typing.{Signature}
use Rattle.ab_term.specs.Constants.{Constant, constant}
use Rattle.ab_grammar.specs.CommandTrees.{Defined, Clause}
use Rattle.ab_meaning.specs.Types.{written_type, type_place}
use Rattle.ab_meaning.specs.Terms.{kinds_in}
use Rattle.ab_formulas.specs.Clauses as kept
use Rattle.ab_formulas.specs.Stratification.{left_of_arrows, constants, AvoidAll, IsFirstOf}
use Rattle.ab_formulas.specs.Heads.{IsHeadOf}
use Rattle.ab_formulas.specs.Faults.{Fault, bad_head, not_stratified, IsRight, HasFault, in_head, in_body, FirstFault, here, later}
use Rattle.ab_formulas.specs.Declarations.{Declarations, constant_names}
use Rattle.ab_declare.specs.declared.refusal.Refusal.{Refusal}
use Rattle.ab_declare.specs.declared.refusal.Refusal.TheVariants.{Unknown, Clash, TypeClash}
use Rattle.ab_declare.specs.Refusals as refusals
use Rattle.ab_declare.specs.ClauseReadings.{Parts}
use Rattle.ab_declare.specs.ClauseMeanings.{parts_found}
use Rattle.ab_declare.specs.DefinitionCommands.{FirstTold, before, of_type, predicates_found, IsPredicateType, IsPredicate, IsNoPredicate, IsNamed, IsUnnamed, MeanKept, IsRead, IsUnread, refusal_of, block_with, signature_with, HasPredicates, HasNames, HasTypes, Defines, DefinesNothing, predicate_unnamed, clause_unnamed, no_predicate, clause_unread, faulty}
use Rattle.ab_existence.specs.Certainty.{IsCertain}
use Rattle.ab_existence.proofs.Certain.{sure, and_so, and_also, there_or_not}
use Rattle.ab_effect_answers.proofs.Clauses.{clause_answered}

-- THE FIRST of some things of which the fact doesn't hold, or it holds of each
module _ {X : Type 0} (IsFine : X → Type 0) (Tells : X → Refusal → Type 0) where
  pub first_there : (xs : List X) → ((x : X) → Contains xs x → IsCertain (IsFine x ⊎ ((r : Refusal) × Tells x r))) → IsCertain (All IsFine xs ⊎ ((r : Refusal) × FirstTold IsFine Tells xs r))
  first_there [] each = sure (inl (All-nil IsFine))
  first_there (x ∷ xs) each =
      and_so (each x (0, omega arith, refl))
      (λ a. elim a [
        | inl fine ↦ and_also (first_there xs (λ y c. each y (suc c.0, omega (arith, c.1), c.2)))
            (λ rest. elim rest [ inl all ↦ inl (All-cons IsFine x xs fine all) | inr told ↦ inr (told.0, FirstTold.later fine told.1) ])
        | inr told ↦ sure (inr (told.0, FirstTold.this told.1))
      ])

-- PREDICATES

-- where the predicates are found, the first has a type of kinds, and the others are found
abbrev FirstAndOthers : List (List ℕ) → List (List ℕ) → Defined → List Defined → Type 0
FirstAndOthers kinds used x ds = ((A : Ty) × (written_type kinds x.type_of ≡ Ok A)) × ((qs : List Constant) × (predicates_found kinds (used ++ x.name ∷ []) ds ≡ Ok qs))

first_typed : (kinds used : List (List ℕ)) (x : Defined) (ds : List Defined) (ps : List Constant) → predicates_found kinds used (x ∷ ds) ≡ Ok ps → FirstAndOthers kinds used x ds
first_typed kinds used x ds ps found = by_name (list_any (bytes_eq x.name) used) found
  where
    by_rest : (A : Ty) → written_type kinds x.type_of ≡ Ok A → (o : Result (List Constant) Refusal) → predicates_found kinds (used ++ x.name ∷ []) ds ≡ o → before (constant x.name A) o ≡ Ok ps → FirstAndOthers kinds used x ds
    by_rest A is (Ok qs) rest e = ((A, is), (qs, rest))
    by_rest A is (Err r) rest e = absurd (cc)

    by_type : (o : Result Ty (List ℕ)) → written_type kinds x.type_of ≡ o → of_type x.name o (predicates_found kinds (used ++ x.name ∷ []) ds) ≡ Ok ps → FirstAndOthers kinds used x ds
    by_type (Ok A) is e = by_rest A is (predicates_found kinds (used ++ x.name ∷ []) ds) refl e
    by_type (Err y) is e = absurd (cc)

    by_name : (b : Bool) → (if b then Err (Clash x.name None) else of_type x.name (written_type kinds x.type_of) (predicates_found kinds (used ++ x.name ∷ []) ds)) ≡ Ok ps → FirstAndOthers kinds used x ds
    by_name true e = absurd (cc)
    by_name false e = by_type (written_type kinds x.type_of) refl e

-- and so each has
typed : (kinds used : List (List ℕ)) (ds : List Defined) (ps : List Constant) → predicates_found kinds used ds ≡ Ok ps → (d : Defined) → Contains ds d → (A : Ty) × (written_type kinds d.type_of ≡ Ok A)
typed kinds used [] ps found d c = absurd (omega (arith, c.1))
typed kinds used (x ∷ ds) ps found d (zero, l, e) =
    let A = (first_typed kinds used x ds ps found).0 in
    (A.0, subst (λ (y : Defined). written_type kinds y.type_of ≡ Ok A.0) e A.1)
typed kinds used (x ∷ ds) ps found d (suc k, l, e) =
    let rest = (first_typed kinds used x ds ps found).1 in
    typed kinds (used ++ x.name ∷ []) ds rest.0 rest.1 d (k, omega (arith, l), e)

predicate_or_not : (kinds : List (List ℕ)) (d : Defined) (A : Ty) → written_type kinds d.type_of ≡ Ok A → IsCertain (IsPredicate kinds d ⊎ ((r : Refusal) × IsNoPredicate kinds d r))
predicate_or_not kinds d A is =
    and_also (there_or_not (IsPredicateType A)) (λ some. elim some [ inl fits ↦ inl (A, is, fits) | inr unfit ↦ inr (TypeClash (refusals.here (type_place d.type_of)), (A, is, unfit, refl)) ])

-- CLAUSES

module _ (kinds : List (List ℕ)) (sg : Signature) where
  named_or_not : (c : Clause) → IsNamed kinds sg c ⊎ ((r : Refusal) × IsUnnamed kinds sg c r)
  named_or_not c = by_parts (parts_found kinds sg c) refl
    where
      by_parts : (o : Result Parts (List ℕ)) → parts_found kinds sg c ≡ o → IsNamed kinds sg c ⊎ ((r : Refusal) × IsUnnamed kinds sg c r)
      by_parts (Ok e) is = inl (e, is)
      by_parts (Err x) is = inr (Unknown x None, (x, is, refl))

  read_or_not : (c : Clause) → IsCertain (IsRead kinds sg c ⊎ ((r : Refusal) × IsUnread kinds sg c r))
  read_or_not c = clause_answered kinds sg c prop

  all_kept : (cs : List Clause) → All (IsRead kinds sg) cs → (ks : List kept.Clause) × MeanKept kinds sg cs ks
  all_kept [] all = ([], tt)
  all_kept (c ∷ cs) all =
      let k = All-head (IsRead kinds sg) c cs all in
      let rest = all_kept cs (All-tail (IsRead kinds sg) c cs all) in
      (k.0 ∷ rest.0, (k.1, rest.1))

-- FAULTS

module _ (ps : List (List ℕ)) where
  avoided_or_not : (names : List (List ℕ)) → IsCertain (AvoidAll ps names ⊎ ((p : List ℕ) × IsFirstOf ps names p))
  avoided_or_not [] = sure (inl (All-nil (λ c. ¬ Contains ps c)))
  avoided_or_not (x ∷ xs) =
      and_so (there_or_not (Contains ps x))
      (λ some. elim some [
        | inl c ↦ sure (inr (x, record { before = []; after = xs; whole = refl; none_before = All-nil (λ y. ¬ Contains ps y); is_one = c }))
        | inr none ↦ and_also (avoided_or_not xs)
            (λ rest. elim rest [
              | inl all ↦ inl (All-cons (λ y. ¬ Contains ps y) x xs none all)
              | inr p ↦ inr (p.0, record { before = x ∷ p.1.before; after = p.1.after; whole = ap (λ (ys : List (List ℕ)). x ∷ ys) p.1.whole; none_before = All-cons (λ y. ¬ Contains ps y) x p.1.before none p.1.none_before; is_one = p.1.is_one })
            ])
      ])

  right_or_not : (number : ℕ) (c : kept.Clause) → IsCertain (IsRight ps c ⊎ ((f : Fault) × HasFault ps number c f))
  right_or_not number c =
      and_so (there_or_not (IsHeadOf ps c.head))
      (λ some. elim some [
        | inl head ↦ and_also (avoided_or_not (constants left_of_arrows c.body))
            (λ names. elim names [ inl body ↦ inl (record { head = head; body = body }) | inr p ↦ inr (not_stratified p.0, in_body head p.1) ])
        | inr none ↦ sure (inr (bad_head number, in_head none))
      ])

  right_or_faulty : (number : ℕ) (cs : List kept.Clause) → IsCertain (All (IsRight ps) cs ⊎ ((f : Fault) × FirstFault ps number cs f))
  right_or_faulty number [] = sure (inl (All-nil (IsRight ps)))
  right_or_faulty number (c ∷ cs) =
      and_so (right_or_not number c)
      (λ some. elim some [
        | inl right ↦ and_also (right_or_faulty (suc number) cs) (λ rest. elim rest [ inl all ↦ inl (All-cons (IsRight ps) c cs right all) | inr f ↦ inr (f.0, later right f.1) ])
        | inr f ↦ sure (inr (f.0, here f.1))
      ])

-- EACH DEFINITION
module _ (D : Declarations) (inductive : Bool) (ds : List Defined) (cs : List Clause) where
  abbrev Answer : Type 0
  Answer = ((more : Declarations) × Defines D inductive ds cs more) ⊎ ((r : Refusal) × DefinesNothing D inductive ds cs r)

  module _ (ps : List Constant) where
    by_meaning : (ks : List kept.Clause) → HasTypes D ds cs ps → MeanKept (kinds_in D) (signature_with D ps) cs ks → IsCertain Answer
    by_meaning ks types means =
        and_also (right_or_faulty (block_with inductive ps ks).predicates 1 ks)
        (λ some. elim some [
          | inl right ↦ inl (_, record { predicates = ps; clauses = ks; types = types; meant = means; right = right; is = refl })
          | inr f ↦ inr (refusal_of f.0, faulty types means f.1)
        ])

    by_types : HasTypes D ds cs ps → IsCertain Answer
    by_types types =
        and_so (first_there (IsRead (kinds_in D) (signature_with D ps)) (IsUnread (kinds_in D) (signature_with D ps)) cs (λ c m. read_or_not (kinds_in D) (signature_with D ps) c))
        (λ some. elim some [
          | inl all ↦ (let ks = all_kept (kinds_in D) (signature_with D ps) cs all in by_meaning ks.0 types ks.1)
          | inr r ↦ sure (inr (r.0, clause_unread types r.1))
        ])

    by_names : HasNames D ds cs ps → IsCertain Answer
    by_names names =
        and_so (first_there (IsPredicate (kinds_in D)) (IsNoPredicate (kinds_in D)) ds
        (λ d m. let t = typed (kinds_in D) (constant_names D) ds ps names.0 d m in predicate_or_not (kinds_in D) d t.0 t.1))
        (λ some. elim some [ inl all ↦ by_types (names, all) | inr r ↦ sure (inr (r.0, no_predicate names r.1)) ])

    by_predicates : HasPredicates D ds cs ps → IsCertain Answer
    by_predicates found =
        and_so (first_there (IsNamed (kinds_in D) (signature_with D ps)) (IsUnnamed (kinds_in D) (signature_with D ps)) cs (λ c m. sure (named_or_not (kinds_in D) (signature_with D ps) c)))
        (λ some. elim some [ inl all ↦ by_names (found, all) | inr r ↦ sure (inr (r.0, clause_unnamed found r.1)) ])

  pub definition_answered : IsCertain Answer
  definition_answered = by_found (predicates_found (kinds_in D) (constant_names D) ds) refl
    where
      by_found : (o : Result (List Constant) Refusal) → predicates_found (kinds_in D) (constant_names D) ds ≡ o → IsCertain Answer
      by_found (Ok ps) is = by_predicates ps is
      by_found (Err r) is = sure (inr (r, predicate_unnamed is))
