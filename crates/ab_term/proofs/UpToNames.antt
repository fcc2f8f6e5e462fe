-- To be equal up to names is an equivalence.
use Rattle.std.proofs.Common.{◌≡◌, [], ◌++◌, refl, sym, ◌∙◌, ap}
use Rattle.std.specs.Prelude.{Contains}
use Rattle.std.proofs.lemmas.List.Elements.{All-nil, Contains-append_left, Contains-append_right}
use Rattle.ab_term.specs.Terms.{Nominal, Head, constant, logical, nominal, variable, index, Term, lam, spine, Terms, no_terms, term}
use Rattle.ab_term.specs.Translation.{forget}
use Rattle.ab_term.specs.Names.{rename_head, rename, rename_all, moved_by, IsPermutationTable, permute, EqualUpToNames}
use Rattle.ab_term.proofs.Lists.{AllPairs-none}
use Rattle.ab_term.proofs.Translations.{translate-rename}
use Rattle.ab_term.proofs.Permutations.{Table, froms, moved_by-absent, IsOneToOne, one_to_one, swapped, swapped_table, table_of, table_of_permutes, moved_by-table_of}

empty_table : IsPermutationTable []
empty_table = record {
  from_distinct = AllPairs-none (λ p q. p.0 ≡ q.0 → ⊥);
  to_distinct = AllPairs-none (λ p q. p.1 ≡ q.1 → ⊥);
  same_constants = λ a. (λ c. c, λ c. c);
  keeps_types = All-nil (λ p. p.0.type ≡ p.1.type);
}

module _ {Var : Type 0} where
  rename_head-itself : (h : Head Var) → rename_head (λ a. a) h ≡ h
  rename_head-itself (constant c) = refl
  rename_head-itself (logical l) = refl
  rename_head-itself (nominal a) = refl
  rename_head-itself (variable x) = refl
  rename_head-itself (index i) = refl

  rename_head-rename_head : (f g : Nominal → Nominal) (h : Head Var) → rename_head g (rename_head f h) ≡ rename_head (λ a. g (f a)) h
  rename_head-rename_head f g (constant c) = refl
  rename_head-rename_head f g (logical l) = refl
  rename_head-rename_head f g (nominal a) = refl
  rename_head-rename_head f g (variable x) = refl
  rename_head-rename_head f g (index i) = refl

module _ {Var Hint : Type 0} where
  mutual
    pub rename-itself : (t : Term Var Hint) → rename (λ a. a) t ≡ t
    rename-itself (lam A x t) = ap (lam A x) (rename-itself t)
    rename-itself (spine h ts) = ap (λ g. spine g (rename_all (λ a. a) ts)) (rename_head-itself h) ∙ ap (spine h) (rename_all-itself ts)

    rename_all-itself : (ts : Terms Var Hint) → rename_all (λ a. a) ts ≡ ts
    rename_all-itself no_terms = refl
    rename_all-itself (term t ts) = ap (λ s. term s (rename_all (λ a. a) ts)) (rename-itself t) ∙ ap (term t) (rename_all-itself ts)

  mutual
    pub rename-rename : (f g : Nominal → Nominal) (t : Term Var Hint) → rename g (rename f t) ≡ rename (λ a. g (f a)) t
    rename-rename f g (lam A x t) = ap (lam A x) (rename-rename f g t)
    rename-rename f g (spine h ts) =
        ap (λ e. spine e (rename_all g (rename_all f ts))) (rename_head-rename_head f g h) ∙ ap (spine (rename_head (λ a. g (f a)) h)) (rename_all-rename_all f g ts)

    rename_all-rename_all : (f g : Nominal → Nominal) (ts : Terms Var Hint) → rename_all g (rename_all f ts) ≡ rename_all (λ a. g (f a)) ts
    rename_all-rename_all f g no_terms = refl
    rename_all-rename_all f g (term t ts) =
        ap (λ s. term s (rename_all g (rename_all f ts))) (rename-rename f g t) ∙ ap (term (rename (λ a. g (f a)) t)) (rename_all-rename_all f g ts)

  -- two maps that agree rename alike
  pub rename-same : (f g : Nominal → Nominal) → ((a : Nominal) → f a ≡ g a) → (t : Term Var Hint) → rename f t ≡ rename g t
  rename-same f g e t = ap (λ m. rename m t) (λ i a. e a i)

  forget-rename : (m : Nominal → Nominal) (t : Term Var Hint) → forget (rename m t) ≡ rename m (forget t)
  forget-rename m t = translate-rename (λ v. v) (λ x. tt) m t

module _ {Var Hint : Type 0} where
  pub up_to_names-itself : (t : Term Var Hint) → EqualUpToNames t t
  up_to_names-itself t = ([], empty_table, ap forget (rename-itself t))

  pub up_to_names-symmetric : (t u : Term Var Hint) → EqualUpToNames t u → EqualUpToNames u t
  up_to_names-symmetric t u (ps, table, e) = (
    swapped ps,
    swapped_table ps table,
    forget-rename (moved_by (swapped ps)) u
        ∙ ap (rename (moved_by (swapped ps))) (sym e)
        ∙ ap (rename (moved_by (swapped ps))) (forget-rename (moved_by ps) t)
        ∙ rename-rename (moved_by ps) (moved_by (swapped ps)) (forget t)
        ∙ rename-same (λ a. moved_by (swapped ps) (moved_by ps a)) (λ a. a) (one_to_one ps table).back (forget t)
        ∙ rename-itself (forget t),
  )

  -- the pairs the other way round undo a permutation
  pub permute_back : (ps : Table) → IsPermutationTable ps → (t : Term Var Hint) → permute (swapped ps) (permute ps t) ≡ t
  permute_back ps table t =
      rename-rename (moved_by ps) (moved_by (swapped ps)) t
      ∙ rename-same (λ a. moved_by (swapped ps) (moved_by ps a)) (λ a. a) (one_to_one ps table).back t
      ∙ rename-itself t

-- the maps of two tables, one after the other, as the map of one
module _ (ps qs : Table) (p : IsPermutationTable ps) (q : IsPermutationTable qs) where
  abbrev after : Nominal → Nominal
  after a = moved_by qs (moved_by ps a)

  abbrev before : Nominal → Nominal
  before a = moved_by (swapped ps) (moved_by (swapped qs) a)

  pub both_ways : IsOneToOne after before
  both_ways = record {
    back = λ a. ap (moved_by (swapped ps)) ((one_to_one qs q).back (moved_by ps a)) ∙ (one_to_one ps p).back a;
    forth = λ a. ap (moved_by qs) ((one_to_one ps p).forth (moved_by (swapped qs) a)) ∙ (one_to_one qs q).forth a;
    keeps = λ a. (one_to_one qs q).keeps (moved_by ps a) ∙ (one_to_one ps p).keeps a;
  }

  pub all_moved : (a : Nominal) → (Contains (froms ps ++ froms qs) a → ⊥) → after a ≡ a
  all_moved a n =
      ap (moved_by qs) (moved_by-absent ps a (λ c. n (Contains-append_left (froms ps) (froms qs) a c)))
      ∙ moved_by-absent qs a (λ c. n (Contains-append_right (froms ps) (froms qs) a c))

  abbrev pub one_after_other : Table
  one_after_other = table_of after before both_ways (froms ps ++ froms qs) all_moved

  pub one_after_other_permutes : IsPermutationTable one_after_other
  one_after_other_permutes = table_of_permutes after before both_ways (froms ps ++ froms qs) all_moved

  pub moved_by-one_after_other : (a : Nominal) → moved_by one_after_other a ≡ moved_by qs (moved_by ps a)
  moved_by-one_after_other a = moved_by-table_of after before both_ways (froms ps ++ froms qs) all_moved a

module _ {Var Hint : Type 0} where
  pub up_to_names-transitive : (t u v : Term Var Hint) → EqualUpToNames t u → EqualUpToNames u v → EqualUpToNames t v
  up_to_names-transitive t u v (ps, p, e) (qs, q, f) = (
    one_after_other ps qs p q,
    one_after_other_permutes ps qs p q,
    ap forget (rename-same (moved_by (one_after_other ps qs p q)) (λ a. moved_by qs (moved_by ps a)) (moved_by-one_after_other ps qs p q) t)
        ∙ ap forget (sym (rename-rename (moved_by ps) (moved_by qs) t))
        ∙ forget-rename (moved_by qs) (rename (moved_by ps) t)
        ∙ ap (rename (moved_by qs)) e
        ∙ sym (forget-rename (moved_by qs) u)
        ∙ f,
  )
