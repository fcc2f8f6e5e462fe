-- A term abstracted over names: well-typed, closed where no foreign name stands in it, and the term again once the
-- names are given to it.
use Rattle.std.proofs.Common.{◌≡◌, ℕ, zero, suc, ◌≤◌, ◌⊎◌, inl, inr, List, [], ◌∷◌, ◌++◌, length, Bool, true, false, cond, ◌||◌, refl, sym, ◌∙◌, ap, subst, arith, append-nil}
use Rattle.std.proofs.lemmas.Bool.{false≢true, or_cases, or_left, or_right, false_from_ne_true}
use Rattle.ab_term.specs.Types.{Ty, kind, arrow, arity}
use Rattle.ab_term.specs.Terms.{Head, constant, logical, nominal, variable, index, Term, lam, spine, Terms, no_terms, term}
use Rattle.ab_term.specs.Typing.{Signature, HasType}
use Rattle.ab_term.specs.Substitution.{shift_head, reduce}
use Rattle.ab_term.specs.Translation.{translate_head, forget, forget_all, EqualPastHints}
use Rattle.ab_term.specs.Sameness.{same_head}
use Rattle.ab_term.specs.Abstraction.{among, under, may_stand, Only, OnlyAll, Named, named_none, named_more, name_terms, close_head, abstracted}
use Rattle.ab_term.proofs.Expansions.{reduce-no_terms}
use Rattle.ab_term.proofs.Translations.{translate-reduce, translate_typed}
use Rattle.ab_term.proofs.Forgetting.{forget_head}
use Rattle.ab_term.proofs.Same.{same_head-Decides}
use Rattle.ab_term.proofs.Strengthening.{front_typed}
use Rattle.ab_term.proofs.Closing.{abstracted_typed, forget-abstracted, substitute-close}
use Rattle.ab_term.proofs.Hinted.{forget-names}
use Rattle.ab_term.proofs.Only.{Sends, include, close_only, among-append, among_front, among_behind, among_stands, may_stand-under, innermost_stands, only_reach, expansion_only}

pub sends_among : (ns ms : List (Head ℕ)) → ((g : Head ℕ) → among ns g ≡ true → among ms g ≡ true) → Sends ns ms (λ g. g)
sends_among ns ms f (constant c) e = refl
sends_among ns ms f (logical l) e = refl
sends_among ns ms f (nominal a) e = f (nominal a) e
sends_among ns ms f (variable y) e = refl
sends_among ns ms f (index i) e = f (index i) e

later : (h : Head ℕ) (hs ms : List (Head ℕ)) (g : Head ℕ) → among ((h ∷ hs) ++ ms) g ≡ true → among (hs ++ (h ∷ ms)) g ≡ true
later h hs ms g e = go (or_cases (same_head h g) (among (hs ++ ms) g) e)
  where
    rest : (among hs g ≡ true) ⊎ (among ms g ≡ true) → among (hs ++ (h ∷ ms)) g ≡ true
    rest (inl a) = among_front hs (h ∷ ms) g a
    rest (inr b) = among_behind hs (h ∷ ms) g (or_right (same_head h g) (among ms g) b)

    go : (same_head h g ≡ true) ⊎ (among (hs ++ ms) g ≡ true) → among (hs ++ (h ∷ ms)) g ≡ true
    go (inl a) = among_behind hs (h ∷ ms) g (or_left (same_head h g) (among ms g) a)
    go (inr b) = rest (among-append hs ms g b)

pub stands_else : (h : Head ℕ) (ms : List (Head ℕ)) (g : Head ℕ) → same_head h g ≡ false → may_stand (h ∷ ms) g ≡ true → may_stand ms g ≡ true
stands_else h ms (constant c) n e = refl
stands_else h ms (logical l) n e = refl
stands_else h ms (nominal a) n e = sym (ap (λ b. b || among ms (nominal a)) n) ∙ e
stands_else h ms (variable y) n e = refl
stands_else h ms (index i) n e = sym (ap (λ b. b || among ms (index i)) n) ∙ e

closing_sends : (h : Head ℕ) (ms : List (Head ℕ)) → Sends (h ∷ ms) (under ms) (close_head zero h)
closing_sends h ms g e = go (same_head g h) refl
  where
    go : (b : Bool) → same_head g h ≡ b → may_stand (under ms) (cond b (index zero) (shift_head zero g)) ≡ true
    go true s = innermost_stands ms
    go false s =
        let other : same_head h g ≡ false = false_from_ne_true (same_head h g) (λ f. false≢true (sym s ∙ (same_head-Decides g h).1 (sym ((same_head-Decides h g).0 f)))) in
        may_stand-under ms g ∙ stands_else h ms g other e

module _ {Hint : Type 0} (x : Hint) where
  -- abstracted over names, a term has the others
  pub abstracted_only : (A : Ty) (hs ms : List (Head ℕ)) (t : Term ℕ Hint) → length hs ≤ arity A → Only (hs ++ ms) t → Only ms (abstracted x A hs t)
  abstracted_only A [] ms t l o = o
  abstracted_only (kind k) (h ∷ hs) ms t l o = absurd (omega (arith, l))
  abstracted_only (arrow A B) (h ∷ hs) ms t l o =
      let moved = include ((h ∷ hs) ++ ms) (hs ++ (h ∷ ms)) (sends_among ((h ∷ hs) ++ ms) (hs ++ (h ∷ ms)) (later h hs ms)) t o in
      close_only (h ∷ ms) (under ms) zero h (closing_sends h ms) (abstracted x B hs t) (abstracted_only B hs (h ∷ ms) t (omega (arith, l)) moved)

pub named_length : {sg : Signature} {G : List Ty} {hs : List (Head ℕ)} {A : Ty} (c : List ℕ) → Named sg G hs A (kind c) → length hs ≡ arity A
named_length c n = go refl n
  where
    go : {sg : Signature} {G : List Ty} {hs : List (Head ℕ)} {A C : Ty} → C ≡ kind c → Named sg G hs A C → length hs ≡ arity A
    go e named_none = sym (ap arity e)
    go e (named_more f n) = ap suc (go e n)

module _ (sg : Signature) {Hint : Type 0} where
  -- a term that has only the names, abstracted over them, is closed and has no names
  pub abstracted_closed : (x : Hint) (A : Ty) (hs : List (Head ℕ)) (t : Term ℕ Hint) (G : List Ty) (c : List ℕ) → Named sg G hs A (kind c) → HasType sg G t (kind c) → Only hs t → HasType sg [] (abstracted x A hs t) A × Only [] (abstracted x A hs t)
  abstracted_closed x A hs t G c n d o =
      let nameless : Only [] (abstracted x A hs t) = abstracted_only x A hs [] t (let l : length hs ≡ arity A = named_length c n in omega (arith, l)) (subst (λ ns. Only ns t) (sym (append-nil hs)) o) in
      let short = only_reach 0 [] (λ i e. absurd (false≢true e)) (abstracted x A hs t) nameless in
      (front_typed sg [] G (abstracted x A hs t) short (abstracted_typed sg x n d), nameless)

module _ (sg : Signature) where
  -- given the names, it is the term
  pub reduce-abstracted : {G : List Ty} {A C : Ty} {hs : List (Head ℕ)} (t : Term ℕ (Unit {0})) → Named sg G hs A C → HasType sg G t C → reduce A (abstracted tt A hs t) (name_terms tt A hs) ≡ t
  reduce-abstracted t (named_none {A = A}) d = reduce-no_terms A t
  reduce-abstracted t (named_more {A = A} {B = B} {h = h} {hs = hs} e n) d =
      ap (λ w. reduce B w (name_terms tt B hs)) (substitute-close sg zero h e (abstracted_typed sg tt n d))
      ∙ reduce-abstracted t n d

  pub reduce-abstracted_hints : {Hint : Type 0} (x : Hint) {G : List Ty} {A C : Ty} {hs : List (Head ℕ)} (t : Term ℕ Hint) → Named sg G hs A C → HasType sg G t C → EqualPastHints (reduce A (abstracted x A hs t) (name_terms x A hs)) t
  reduce-abstracted_hints x {A = A} {hs = hs} t n d =
      translate-reduce (λ v. v) (λ y. tt) A (abstracted x A hs t) (name_terms x A hs)
      ∙ ap (reduce A (forget (abstracted x A hs t))) (forget-names x A hs)
      ∙ ap (λ u. reduce A u (name_terms tt A hs)) (forget-abstracted x A hs t)
      ∙ reduce-abstracted (forget t) n (translate_typed sg (λ v. v) (λ y. tt) d)

module _ {Hint : Type 0} where
  pub name_terms_only : (x : Hint) (A : Ty) (hs ns : List (Head ℕ)) → ((g : Head ℕ) → among hs g ≡ true → among ns g ≡ true) → OnlyAll ns (name_terms x A hs)
  name_terms_only x A [] ns f = tt
  name_terms_only x (kind c) (h ∷ hs) ns f = tt
  name_terms_only x (arrow A B) (h ∷ hs) ns f =
      (expansion_only x A ns h (among_stands ns h (f h (or_left (same_head h h) (among hs h) ((same_head-Decides h h).1 refl)))), name_terms_only x B hs ns (λ g e. f g (or_right (same_head h g) (among hs g) e)))

  mutual
    pub only_past_hints : (ns : List (Head ℕ)) (t u : Term ℕ Hint) → forget t ≡ forget u → Only ns t → Only ns u
    only_past_hints ns (lam A x t) (lam B y u) e o = let inner : forget t ≡ forget u = cc in only_past_hints (under ns) t u inner o
    only_past_hints ns (lam A x t) (spine h us) e o = absurd (cc)
    only_past_hints ns (spine g ts) (lam B y u) e o = absurd (cc)
    only_past_hints ns (spine g ts) (spine h us) e o =
        let heads : translate_head (λ v. v) g ≡ translate_head (λ v. v) h = cc in
        let rest : forget_all ts ≡ forget_all us = cc in
        (subst (λ k. may_stand ns k ≡ true) (sym (forget_head g) ∙ heads ∙ forget_head h) o.0, only_all_past_hints ns ts us rest o.1)

    pub only_all_past_hints : (ns : List (Head ℕ)) (ts us : Terms ℕ Hint) → forget_all ts ≡ forget_all us → OnlyAll ns ts → OnlyAll ns us
    only_all_past_hints ns no_terms no_terms e o = tt
    only_all_past_hints ns no_terms (term u us) e o = absurd (cc)
    only_all_past_hints ns (term t ts) no_terms e o = absurd (cc)
    only_all_past_hints ns (term t ts) (term u us) e o =
        let first : forget t ≡ forget u = cc in
        let rest : forget_all ts ≡ forget_all us = cc in
        (only_past_hints ns t u first o.0, only_all_past_hints ns ts us rest o.1)

  mutual
    pub only_forgotten : (ns : List (Head ℕ)) (t : Term ℕ Hint) → Only ns (forget t) → Only ns t
    only_forgotten ns (lam A x t) o = only_forgotten (under ns) t o
    only_forgotten ns (spine h ts) o = (subst (λ k. may_stand ns k ≡ true) (forget_head h) o.0, only_all_forgotten ns ts o.1)

    pub only_all_forgotten : (ns : List (Head ℕ)) (ts : Terms ℕ Hint) → OnlyAll ns (forget_all ts) → OnlyAll ns ts
    only_all_forgotten ns no_terms o = tt
    only_all_forgotten ns (term t ts) o = (only_forgotten ns t o.0, only_all_forgotten ns ts o.1)

  mutual
    pub forget_only : (ns : List (Head ℕ)) (t : Term ℕ Hint) → Only ns t → Only ns (forget t)
    forget_only ns (lam A x t) o = forget_only (under ns) t o
    forget_only ns (spine h ts) o = (subst (λ k. may_stand ns k ≡ true) (sym (forget_head h)) o.0, forget_all_only ns ts o.1)

    pub forget_all_only : (ns : List (Head ℕ)) (ts : Terms ℕ Hint) → OnlyAll ns ts → OnlyAll ns (forget_all ts)
    forget_all_only ns no_terms o = tt
    forget_all_only ns (term t ts) o = (forget_only ns t o.0, forget_all_only ns ts o.1)
