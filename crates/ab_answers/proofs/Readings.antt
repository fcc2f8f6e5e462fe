-- AN EXPRESSION HAS ONE READING, NONE OR SEVERAL: two readings are one where they give its names the same types.
use Rattle.std.specs.Prelude.{Ok, Err}
use Rattle.std.proofs.Common.{◌≡◌, ◌≢◌, ◌⊎◌, inl, inr, ℕ, suc, ◌<◌, Bool, true, false, List, [], ◌∷◌, ◌++◌, Some, length, get_or, refl, sym, ◌∙◌, ap, arith, length-append}
use Rattle.ab_term.specs.Types.{Ty, arrow, prop, same_type}
use Rattle.ab_term.specs.Terms.{Read}
use Rattle.ab_term.specs.Typing.{type_at}
use Rattle.ab_term.specs.Beta.{atom, abstraction, application}
use Rattle.ab_term.proofs.Comparisons.{same_type-Decides}
use Rattle.ab_grammar.specs.Tree.{Tree, place_of}
use Rattle.ab_formulas.specs.Declarations.{Declarations, signature_in}
use Rattle.ab_formulas.specs.Formulas.{IsFormula}
use Rattle.ab_formulas.specs.Sequents.{Sequent}
use Rattle.ab_meaning.specs.ResolvedNames.{Name, Resolved, places_of}
use Rattle.ab_meaning.specs.Scopes.{Scope, Found, resolved}
use Rattle.ab_meaning.specs.Readings.{Raw, Making, equation, bound_term, Reads, reads_bound, reads_known, reads_free, reads_apply, reads_behind, reads_abs, reads_equal, reads_bind}
use Rattle.ab_meaning.specs.ReadingCounts.{Reading, IsTheReading, HasNoReading, Differ, IsFirstOpen}
use Rattle.ab_meaning.specs.Normal.{normal_form}
use Rattle.ab_meaning.specs.Refusals.{Refusal, unknown, type_clash, untyped}
use Rattle.ab_meaning.specs.Terms.{made, scope_of, MeansIn, MeansNothingIn, Asserts, AssertsNothing}
use Rattle.ab_existence.specs.Certainty.{IsCertain}
use Rattle.ab_existence.proofs.Certain.{sure, and_so, and_also, there_or_not, least}

pub parted : {X : Type 0} (As Bs Cs Ds : List X) → length As ≡ length Cs → As ++ Bs ≡ Cs ++ Ds → (As ≡ Cs) × (Bs ≡ Ds)
parted [] Bs [] Ds l e = (refl, e)
parted [] Bs (C ∷ Cs) Ds l e = absurd (omega (arith, l))
parted (A ∷ As) Bs [] Ds l e = absurd (omega (arith, l))
parted (A ∷ As) Bs (C ∷ Cs) Ds l e =
    let first : A ≡ C = cc in
    let others : As ++ Bs ≡ Cs ++ Ds = cc in
    let rest = parted As Bs Cs Ds (omega (arith, l)) others in
    (ap (λ x. x ∷ As) first ∙ ap (λ xs. C ∷ xs) rest.0, rest.1)

module _ (make : Making) where
  -- there is a type for each place
  pub counted : {types : Name → Ty} {G : List Ty} {e : Resolved} {t : Raw} {A : Ty} {As : List Ty} → Reads make types G e t A As → length As ≡ length (places_of e)
  counted (reads_bound h) = refl
  counted reads_known = refl
  counted (reads_free p) = refl
  counted (reads_apply {e = e} {f = f} {As = As} {Bs = Bs} d h) = omega (arith, counted d, counted h, length-append As Bs, length-append (places_of e) (places_of f))
  counted (reads_behind {e = e} {f = f} {As = As} {Bs = Bs} d h) = omega (arith, counted d, counted h, length-append As Bs, length-append (places_of e) (places_of f))
  counted (reads_abs p d) = omega (arith, counted d)
  counted (reads_equal {e = e} {f = f} {As = As} {Bs = Bs} d h) = omega (arith, counted d, counted h, length-append As Bs, length-append (places_of e) (places_of f))
  counted (reads_bind p k d) = omega (arith, counted d)

  -- the types at its names determine the term and its type
  pub determined : {types others : Name → Ty} {G H : List Ty} {e : Resolved} {t u : Raw} {A B : Ty} {As Bs : List Ty}
      → Reads make types G e t A As → Reads make others H e u B Bs → G ≡ H → As ≡ Bs → (t ≡ u) × (A ≡ B)
  determined (reads_bound {i = i} {A = A} h) (reads_bound {A = B} k) context same =
      let both : Some A ≡ Some B = sym h ∙ ap (λ G. type_at G i) context ∙ k in
      let types_same : A ≡ B = cc in
      (refl, types_same)
  determined reads_known reads_known context same = (refl, refl)
  determined {types = types} {others = others} (reads_free {x = x} p) (reads_free q) context same =
      let type : types x ≡ others x = cc in
      (ap (λ A. atom (make x A)) type, type)
  determined (reads_apply {t = t} {u = u} {A = A} {B = B} {As = As} {Bs = Bs} d h) (reads_apply {t = v} {u = w} {A = C} {B = E} {As = Cs} {Bs = Ds} d2 h2) context same =
      let lists = parted As Bs Cs Ds (counted d ∙ sym (counted d2)) same in
      let function = determined d d2 context lists.0 in
      let argument = determined h h2 context lists.1 in
      let result : B ≡ E = (let arrows_same : arrow A B ≡ arrow C E = function.1 in cc) in
      (ap (λ x. application x u) function.0 ∙ ap (application v) argument.0, result)
  determined (reads_behind {t = t} {u = u} {A = A} {B = B} {As = As} {Bs = Bs} d h) (reads_behind {t = v} {u = w} {A = C} {B = E} {As = Cs} {Bs = Ds} d2 h2) context same =
      let lists = parted As Bs Cs Ds (counted d ∙ sym (counted d2)) same in
      let argument = determined d d2 context lists.0 in
      let function = determined h h2 context lists.1 in
      let result : B ≡ E = (let arrows_same : arrow A B ≡ arrow C E = function.1 in cc) in
      (ap (λ x. application x u) function.0 ∙ ap (application v) argument.0, result)
  determined {G = G} {H = H} (reads_abs {x = x} {t = t} {A = A} {B = B} {As = As} p d) (reads_abs {t = u} {A = C} {B = E} {As = Cs} q d2) context same =
      let first : A ≡ C = cc in
      let rest : As ≡ Cs = cc in
      let inner = determined d d2 (ap (λ X. X ∷ G) first ∙ ap (λ K. C ∷ K) context) rest in
      (ap (λ X. abstraction X x t) first ∙ ap (abstraction C x) inner.0, ap (λ X. arrow X B) first ∙ ap (arrow C) inner.1)
  determined (reads_equal {t = t} {u = u} {A = A} {As = As} {Bs = Bs} d h) (reads_equal {t = v} {u = w} {A = C} {As = Cs} {Bs = Ds} d2 h2) context same =
      let lists = parted As Bs Cs Ds (counted d ∙ sym (counted d2)) same in
      let left = determined d d2 context lists.0 in
      let right = determined h h2 context lists.1 in
      (ap (λ X. equation X t u) left.1 ∙ ap (λ x. equation C x u) left.0 ∙ ap (equation C v) right.0, refl)
  determined {G = G} {H = H} (reads_bind {q = b} {x = x} {t = t} {A = A} {As = As} p k d) (reads_bind {t = u} {A = C} {As = Cs} q k2 d2) context same =
      let first : A ≡ C = cc in
      let rest : As ≡ Cs = cc in
      let inner = determined d d2 (ap (λ X. X ∷ G) first ∙ ap (λ K. C ∷ K) context) rest in
      (ap (λ X. bound_term b x X t) first ∙ ap (bound_term b x C) inner.0, refl)

  same_or_not : (A B : Ty) → (A ≡ B) ⊎ (A ≢ B)
  same_or_not A B = by_test (same_type A B) refl
    where
      by_test : (b : Bool) → same_type A B ≡ b → (A ≡ B) ⊎ (A ≢ B)
      by_test true e = inl ((same_type-Decides A B).0 e)
      by_test false e = inr (λ same. let yes = (same_type-Decides A B).1 same in absurd (cc))

  -- lists that nowhere differ are the same
  pub nowhere_different : (As Bs : List Ty) → length As ≡ length Bs → ((k : ℕ) → k < length As → get_or As k prop ≢ get_or Bs k prop → ⊥) → As ≡ Bs
  nowhere_different [] [] l f = refl
  nowhere_different [] (B ∷ Bs) l f = absurd (omega (arith, l))
  nowhere_different (A ∷ As) [] l f = absurd (omega (arith, l))
  nowhere_different (A ∷ As) (B ∷ Bs) l f =
      let first : A ≡ B = elim (same_or_not A B) [ inl e ↦ e | inr n ↦ absurd (f 0 (omega arith) n) ] in
      let rest = nowhere_different As Bs (omega (arith, l)) (λ k below n. f (suc k) (omega (arith, below)) n) in
      ap (λ X. X ∷ As) first ∙ ap (λ Xs. B ∷ Xs) rest

  -- where no name is open, one reading is the reading
  alone : (e : Resolved) (A : Ty) → ((p : ℕ) → IsFirstOpen make e A p → ⊥) → (r : Reading make e A) → IsTheReading make e A r.term
  alone e A none r = record {
    reading = r;
    is = refl;
    alone = λ other.
        let lists : other.given ≡ r.given =
        nowhere_different other.given r.given (counted other.reads ∙ sym (counted r.reads))
        (λ k below apart. least (λ n. (n < length (places_of e)) × Differ make e A n) k (omega (arith, below, counted other.reads), record { one = other; other = r; apart = apart })
        (λ first. none (get_or (places_of e) first.0 0) (record {
          number = first.0;
          within = first.1.has.0;
          place_is = refl;
          differ = first.1.has.1;
          first = λ m l d. first.1.first m l (omega (arith, l, first.1.has.0), d);
        }))) in
        (determined other.reads r.reads refl lists).0;
  }

  abbrev pub Counted : Resolved → Ty → Type 0
  Counted e A = ((t : Raw) × IsTheReading make e A t) ⊎ (HasNoReading make e A ⊎ ((p : ℕ) × IsFirstOpen make e A p))

  pub readings_counted : (e : Resolved) (A : Ty) → IsCertain (Counted e A)
  readings_counted e A =
      and_so (there_or_not ((p : ℕ) × IsFirstOpen make e A p))
      (λ several. elim several [
        | inl p ↦ sure (inr (inr p))
        | inr none ↦ and_also (there_or_not (Reading make e A)) (λ some. elim some [ inl r ↦ inl (r.term, alone e A (λ p several_there. none (p, several_there)) r) | inr nothing_read ↦ inr (inl nothing_read) ])
      ])

-- WHAT AN EXPRESSION MEANS where some names are known, or why it means nothing
pub meaning_there : (D : Declarations) (scope : Scope) (e : Tree) (A : Ty) → IsCertain (((t : Read) × MeansIn D scope e A t) ⊎ ((f : Refusal) × MeansNothingIn scope e A f))
meaning_there D scope e A = by_names (resolved scope [] e) refl
  where
    by_names : (r : Found) → resolved scope [] e ≡ r → IsCertain (((t : Read) × MeansIn D scope e A t) ⊎ ((f : Refusal) × MeansNothingIn scope e A f))
    by_names (Err x) is = sure (inr (unknown x, is))
    by_names (Ok r) is =
        and_also (readings_counted made r A)
        (λ c. elim c [
          | inl one ↦ inl (normal_form (signature_in D) [] one.0, record { named = r; names = is; raw = one.0; reading = one.1; normal = refl })
          | inr other ↦ elim other [
            | inl none ↦ inr (type_clash (place_of e), ((r, is, none), refl))
            | inr several ↦ inr (untyped several.0, (r, is, several.1))
          ]
        ])

-- the formula that it states in a goal, or why it states none
pub statement_there : (D : Declarations) (s : Sequent) (e : Tree) → IsCertain (((F : Read) × Asserts D s e F) ⊎ ((f : Refusal) × AssertsNothing D s e f))
statement_there D s e =
    and_so (meaning_there D (scope_of D s) e prop)
    (λ m. elim m [
      | inl t ↦ and_also (there_or_not (IsFormula (signature_in D) t.0))
          (λ formula. elim formula [ inl is ↦ inl (t.0, (t.1, is)) | inr no_formula ↦ inr (type_clash (place_of e), inr (t.0, t.1, no_formula, refl)) ])
      | inr f ↦ sure (inr (f.0, inl f.1))
    ])
