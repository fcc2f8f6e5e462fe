-- What a substitution does, done in two steps: what a rule puts in, and then what is left to do.
use Rattle.std.proofs.Common.{◌≡◌, ℕ, zero, suc, ◌<◌, ◌≤◌, ◌⊎◌, inl, inr, List, [], ◌∷◌, ◌++◌, length, Bool, true, false, cond, Option, Some, None, option_map, refl, sym, ◌∙◌, ap, subst, arith}
use Rattle.std.proofs.lemmas.Bool.{false≢true, false_from_ne_true}
use Rattle.ab_term.specs.Types.{Ty, kind, arity}
use Rattle.ab_term.specs.Terms.{Variable, Head, constant, logical, nominal, variable, index, Term, lam, spine, Terms, no_terms, term}
use Rattle.ab_term.specs.Typing.{Signature, HasType}
use Rattle.ab_term.specs.Translation.{translate_head, forget, forget_all}
use Rattle.ab_term.specs.Variables.{variables_of_head, put_for, put_at, image_by, image_all_by, Substitution, value_in, image, composition, IsTyped}
use Rattle.ab_term.specs.Sameness.{same_numbered, same_number}
use Rattle.ab_term.specs.Abstraction.{abstracted, name_terms, Named, Only, Distinct}
use Rattle.ab_term.proofs.Translations.{translate_typed}
use Rattle.ab_term.proofs.Images.{IsTypedMap}
use Rattle.ab_term.proofs.Compositions.{then_by, map_typed, image_composed}
use Rattle.ab_term.proofs.Same.{same_numbered-Decides}
use Rattle.ab_term.proofs.Abstracting.{named_length}
use Rattle.ab_term.proofs.Determined.{NoIndex, PutsOnly, closed_value}
use Rattle.ab_term.proofs.PastHints.{forget-image, bare_typed}
use Rattle.ab_unifiers.specs.Patterns.{applied}
use Rattle.ab_unifiers.specs.Replacements.{holds}
use Rattle.ab_unifiers.proofs.Values.{forget_pattern, reduce_plain}
use Rattle.ab_unifiers.proofs.Readings.{name_terms_pattern}
use Rattle.ab_unifiers.proofs.Agreeing.{holds_itself, image_pattern}
use Rattle.ab_unifiers.proofs.Avoiding.{head_avoids, Avoids, AllAvoid, Without}
use Rattle.ab_unifiers.proofs.Pruning.{value_then}

-- what is put in for variables, without hints
abbrev pub Put : Type 0
Put = Variable ℕ → Option (Term ℕ (Unit {0}))

abbrev pub only_on : List (Variable ℕ) → Put → Put
only_on zs f y = cond (holds zs y) (f y) None

below_or : (i m : ℕ) → (i < m) ⊎ (m ≤ i)
below_or i zero = inr (omega arith)
below_or zero (suc m) = inl (omega arith)
below_or (suc i) (suc m) = elim (below_or i m) [ inl a ↦ inl (omega (arith, a)) | inr b ↦ inr (omega (arith, b)) ]

known_head : (m : ℕ) (y : Variable ℕ) → ((v : Variable ℕ) → m ≤ v.name → holds (y ∷ []) v ≡ false) → y.name < m
known_head m y k = elim (below_or y.name m) [ inl a ↦ a | inr b ↦ absurd (false≢true (sym (k y b) ∙ holds_itself y)) ]

module _ (f g : Put) (m : ℕ) (a : (y : Variable ℕ) → y.name < m → f y ≡ g y) where
  head_agrees : (h : Head ℕ) (ts ss : Terms ℕ (Unit {0})) → ((y : Variable ℕ) → m ≤ y.name → holds (variables_of_head h) y ≡ false) → ts ≡ ss → put_at f (translate_head (λ v. v) h) ts ≡ put_at g (translate_head (λ v. v) h) ss
  head_agrees (constant c) ts ss k e = ap (spine (constant c)) e
  head_agrees (logical l) ts ss k e = ap (spine (logical l)) e
  head_agrees (nominal n) ts ss k e = ap (spine (nominal n)) e
  head_agrees (variable y) ts ss k e = ap (put_for y (f y)) e ∙ ap (λ o. put_for y o ss) (a y (known_head m y k))
  head_agrees (index i) ts ss k e = ap (spine (index i)) e

module _ {Hint : Type 0} where
  abbrev pub plain : Substitution ℕ Hint → Put
  plain s y = option_map forget (value_in same_number s y)

  pub image_plain : (s : Substitution ℕ Hint) (t : Term ℕ Hint) → forget (image same_number s t) ≡ image_by (plain s) (forget t)
  image_plain s t = forget-image (value_in same_number s) t

  pub plain_typed : (sg : Signature) (s : Substitution ℕ Hint) → IsTyped sg s → IsTypedMap sg (plain s)
  plain_typed sg s typed = bare_typed sg (value_in same_number s) (map_typed sg same_number s typed)

  -- all variables have lower numbers
  abbrev pub Known : ℕ → Term ℕ Hint → Type 0
  Known m t = (y : Variable ℕ) → m ≤ y.name → Avoids y t

  abbrev pub AllKnown : ℕ → Terms ℕ Hint → Type 0
  AllKnown m ts = (y : Variable ℕ) → m ≤ y.name → AllAvoid y ts

  abbrev pub KnownValues : ℕ → Substitution ℕ Hint → Type 0
  KnownValues m s = (y : Variable ℕ) → m ≤ y.name → Without y (value_in same_number s)

  module _ (f g : Put) (m : ℕ) (a : (y : Variable ℕ) → y.name < m → f y ≡ g y) where
    mutual
      pub agrees_below : (t : Term ℕ Hint) → Known m t → image_by f (forget t) ≡ image_by g (forget t)
      agrees_below (lam A x t) k = ap (lam A tt) (agrees_below t k)
      agrees_below (spine h ts) k = head_agrees f g m a h (image_all_by f (forget_all ts)) (image_all_by g (forget_all ts)) (λ y l. head_avoids y h (k y l).0) (all_agree_below ts (λ y l. (k y l).1))

      pub all_agree_below : (ts : Terms ℕ Hint) → AllKnown m ts → image_all_by f (forget_all ts) ≡ image_all_by g (forget_all ts)
      all_agree_below no_terms k = refl
      all_agree_below (term t ts) k = ap (λ s. term s (image_all_by f (forget_all ts))) (agrees_below t (λ y l. (k y l).0)) ∙ ap (term (image_by g (forget t))) (all_agree_below ts (λ y l. (k y l).1))

module _ (sg : Signature) (others : List (Head ℕ)) where
  -- a substitution of these variables, each with a closed term of its type that has only these names
  pub record Fits (zs : List (Variable ℕ)) (f : Put) : Type 0 where
    pub typed : IsTypedMap sg f
    pub has : PutsOnly others f
    pub some : (y : Variable ℕ) → holds zs y ≡ true → (u : Term ℕ (Unit {0})) × (f y ≡ Some u)
    pub none : (y : Variable ℕ) → holds zs y ≡ false → f y ≡ None

  -- on the first n variables, f is s and then another
  pub record Follows {Hint : Type 0} (n : ℕ) (zs : List (Variable ℕ)) (s : Substitution ℕ Hint) (f : Put) : Type 0 where
    pub next : Put
    pub fits : Fits zs next
    pub through : (y : Variable ℕ) → y.name < n → then_by next y (plain s y) ≡ f y

  only_on_typed : (zs : List (Variable ℕ)) (f : Put) → IsTypedMap sg f → IsTypedMap sg (only_on zs f)
  only_on_typed zs f typed y u e = go (holds zs y) e
    where
      go : (b : Bool) → cond b (f y) None ≡ Some u → HasType sg [] u y.type
      go true e = typed y u e
      go false e = absurd (cc)

  only_on_has : (zs : List (Variable ℕ)) (f : Put) → PutsOnly others f → PutsOnly others (only_on zs f)
  only_on_has zs f has y u e = go (holds zs y) e
    where
      go : (b : Bool) → cond b (f y) None ≡ Some u → Only others u
      go true e = has y u e
      go false e = absurd (cc)

  pub only_on_fits : (zs : List (Variable ℕ)) (f : Put) → IsTypedMap sg f → PutsOnly others f → ((y : Variable ℕ) → holds zs y ≡ true → (u : Term ℕ (Unit {0})) × (f y ≡ Some u)) → Fits zs (only_on zs f)
  only_on_fits zs f typed has some = record {
    typed = only_on_typed zs f typed;
    has = only_on_has zs f has;
    some = λ y e. ((some y e).0, ap (λ b. cond b (f y) None) e ∙ (some y e).1);
    none = λ y e. ap (λ b. cond b (f y) None) e;
  }

module _ (sg : Signature) (others : List (Head ℕ)) {Hint : Type 0} where
  -- on a term
  pub follows_on : {n : ℕ} {zs : List (Variable ℕ)} {s : Substitution ℕ Hint} {f : Put} → IsTyped sg s → (w : Follows sg others n zs s f) → {G : List Ty} {t : Term ℕ Hint} {A : Ty} → HasType sg G t A → Known n t → image_by w.next (forget (image same_number s t)) ≡ image_by f (forget t)
  follows_on {n = n} {s = s} {f = f} typed w {t = t} d k =
      ap (image_by w.next) (image_plain s t)
      ∙ image_composed sg ℕ (Unit {0}) (plain s) w.next (plain_typed sg s typed) w.fits.typed (translate_typed sg (λ v. v) (λ x. tt) d)
      ∙ agrees_below (λ y. then_by w.next y (plain s y)) f n w.through t k

  -- nothing put in
  abbrev pub follows_none : (n : ℕ) (zs : List (Variable ℕ)) (f : Put) → Fits sg others zs f → Follows sg others {Hint = Hint} n zs [] f
  follows_none n zs f fits = record { next = f; fits = fits; through = λ y l. refl }

  -- one after the other
  pub then_through : (n m : ℕ) (zs zs2 : List (Variable ℕ)) (s r : Substitution ℕ Hint) (f : Put) → n ≤ m → IsTyped sg s → IsTyped sg r → KnownValues m s → (w : Follows sg others n zs s f) → (v : Follows sg others m zs2 r w.next) → (y : Variable ℕ) → y.name < n → then_by v.next y (plain (composition same_number s r) y) ≡ f y
  then_through n m zs zs2 s r f l s_typed r_typed known w v y b = go y b (value_in same_number s y) refl
    where
      go : (y : Variable ℕ) → y.name < n → (o : Option (Term ℕ Hint)) → value_in same_number s y ≡ o → then_by v.next y (plain (composition same_number s r) y) ≡ f y
      go y b None e =
          ap (λ p. then_by v.next y (option_map forget p)) (value_then s r y ∙ ap (then_by (value_in same_number r) y) e)
          ∙ v.through y (omega (arith, b, l))
          ∙ ap (λ p. then_by w.next y (option_map forget p)) (sym e)
          ∙ w.through y b
      go y b (Some u) e =
          ap (λ p. then_by v.next y (option_map forget p)) (value_then s r y ∙ ap (then_by (value_in same_number r) y) e)
          ∙ ap Some (follows_on r_typed v (map_typed sg same_number s s_typed y u e) (λ z q. known z q y u e))
          ∙ ap (λ p. then_by w.next y (option_map forget p)) (sym e)
          ∙ w.through y b

  abbrev pub follows_then : (n m : ℕ) (zs zs2 : List (Variable ℕ)) (s r : Substitution ℕ Hint) (f : Put) → n ≤ m → IsTyped sg s → IsTyped sg r → KnownValues m s → (w : Follows sg others n zs s f) → Follows sg others m zs2 r w.next → Follows sg others n zs2 (composition same_number s r) f
  follows_then n m zs zs2 s r f l s_typed r_typed known w v = record { next = v.next; fits = v.fits; through = then_through n m zs zs2 s r f l s_typed r_typed known w v }

  -- HOW A RULE'S PAIRS ARE FOLLOWED: what is put in for a variable becomes what f puts in
  pub follow : (f g : Put) (zs zs2 : List (Variable ℕ)) (n : ℕ) (s : Substitution ℕ Hint) → Fits sg others zs f → IsTypedMap sg g → PutsOnly others g → ((y : Variable ℕ) → holds zs2 y ≡ true → (u : Term ℕ (Unit {0})) × (g y ≡ Some u)) → ((y : Variable ℕ) → y.name < n → g y ≡ f y)
      → ((y : Variable ℕ) → value_in same_number s y ≡ None → holds zs y ≡ true → holds zs2 y ≡ true)
      → ((y : Variable ℕ) (u : Term ℕ Hint) → value_in same_number s y ≡ Some u → (holds zs y ≡ true) × ((v : Term ℕ (Unit {0})) → f y ≡ Some v → image_by (only_on zs2 g) (forget u) ≡ v))
      → Follows sg others n zs2 s f
  follow f g zs zs2 n s fits typed has some agree keep at = record { next = only_on zs2 g; fits = only_on_fits sg others zs2 g typed has some; through = λ y l. go y l (value_in same_number s y) refl }
    where
      stays : (y : Variable ℕ) → y.name < n → value_in same_number s y ≡ None → (b : Bool) → holds zs2 y ≡ b → cond b (g y) None ≡ f y
      stays y l e true h = agree y l
      stays y l e false h = sym (fits.none y (false_from_ne_true (holds zs y) (λ a. false≢true (sym h ∙ keep y e a))))

      go : (y : Variable ℕ) → y.name < n → (o : Option (Term ℕ Hint)) → value_in same_number s y ≡ o → then_by (only_on zs2 g) y (plain s y) ≡ f y
      go y l None e = ap (λ p. then_by (only_on zs2 g) y (option_map forget p)) e ∙ stays y l e (holds zs2 y) refl
      go y l (Some u) e =
          let known = at y u e in
          let own = fits.some y known.0 in
          ap (λ p. then_by (only_on zs2 g) y (option_map forget p)) e ∙ ap Some (known.1 own.0 own.1) ∙ sym own.1

-- a new variable over some names, for a term that has only those
module _ (sg : Signature) (others : List (Head ℕ)) (none : NoIndex others) (f : Put) (zs : List (Variable ℕ)) (fits : Fits sg others zs f)
    (G : List Ty) (k : List ℕ) (w : Variable ℕ) (ks : List (Head ℕ)) (named : Named sg G ks w.type (kind k)) (distinct : Distinct ks) (R : Term ℕ (Unit {0})) (R_typed : HasType sg G R (kind k)) (R_only : Only (ks ++ others) R) where
  abbrev new_value : Term ℕ (Unit {0})
  new_value = abstracted tt w.type ks R

  abbrev pub with_new : Put
  with_new y = cond (same_numbered w y) (Some (abstracted tt w.type ks R)) (f y)

  new_closed : HasType sg [] new_value w.type × Only others new_value
  new_closed = closed_value sg others none ks R named R_typed R_only

  pub with_new_typed : IsTypedMap sg with_new
  with_new_typed y u e = go (same_numbered w y) refl e
    where
      go : (b : Bool) → same_numbered w y ≡ b → cond b (Some new_value) (f y) ≡ Some u → HasType sg [] u y.type
      go true s e = let equal : new_value ≡ u = cc in subst (λ t. HasType sg [] t y.type) equal (subst (λ v. HasType sg [] new_value v.type) ((same_numbered-Decides w y).0 s) new_closed.0)
      go false s e = fits.typed y u e

  pub with_new_has : PutsOnly others with_new
  with_new_has y u e = go (same_numbered w y) e
    where
      go : (b : Bool) → cond b (Some new_value) (f y) ≡ Some u → Only others u
      go true e = let equal : new_value ≡ u = cc in subst (Only others) equal new_closed.1
      go false e = fits.has y u e

  pub with_new_some : (y : Variable ℕ) → (same_numbered w y ≡ true) ⊎ (holds zs y ≡ true) → (u : Term ℕ (Unit {0})) × (with_new y ≡ Some u)
  with_new_some y h = go (same_numbered w y) refl h
    where
      go : (b : Bool) → same_numbered w y ≡ b → (b ≡ true) ⊎ (holds zs y ≡ true) → (u : Term ℕ (Unit {0})) × (cond b (Some new_value) (f y) ≡ Some u)
      go true s h = (new_value, refl)
      go false s (inl a) = absurd (false≢true a)
      go false s (inr a) = fits.some y a

  pub with_new_agrees : (y : Variable ℕ) → y.name < w.name → with_new y ≡ f y
  with_new_agrees y l = ap (λ b. cond b (Some new_value) (f y)) (false_from_ne_true (same_numbered w y) (λ e. let name : w.name ≡ y.name = ap (λ v. v.name) ((same_numbered-Decides w y).0 e) in absurd (omega (arith, l, name))))

  -- the new variable with the names is the term
  pub with_new_applied : {Hint : Type 0} (x : Hint) (zs2 : List (Variable ℕ)) → holds zs2 w ≡ true → image_by (only_on zs2 with_new) (forget (applied x w ks)) ≡ R
  with_new_applied x zs2 h =
      let long : length ks ≡ arity w.type = named_length k named in
      let p = forget_pattern (name_terms_pattern x w.type ks distinct (omega (arith, long))) in
      ap (put_for w (only_on zs2 with_new w)) (image_pattern (only_on zs2 with_new) p)
      ∙ ap (λ b. put_for w (cond b (with_new w) None) (forget_all (name_terms x w.type ks))) h
      ∙ ap (λ b. put_for w (cond b (Some new_value) (f w)) (forget_all (name_terms x w.type ks))) ((same_numbered-Decides w w).1 refl)
      ∙ reduce_plain sg R p named R_typed
