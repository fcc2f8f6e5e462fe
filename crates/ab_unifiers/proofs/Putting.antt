-- What each rule puts in is followed: whatever makes the sides the same is that and then another.
use Rattle.std.proofs.Common.{◌≡◌, ℕ, ◌⊎◌, inl, inr, List, [], ◌∷◌, ◌++◌, map, length, Bool, true, false, cond, ◌||◌, Some, None, refl, sym, ◌∙◌, ap, subst}
use Rattle.std.proofs.lemmas.Bool.{false≢true, or_cases}
use Rattle.ab_term.specs.Types.{Ty, kind}
use Rattle.ab_term.specs.Terms.{Variable, Head, constant, logical, nominal, variable, index, Term, lam, spine, Terms, no_terms, term}
use Rattle.ab_term.specs.Typing.{Signature, HasType, TakeType}
use Rattle.ab_term.specs.Substitution.{shift_head, reduce}
use Rattle.ab_term.specs.Translation.{forget, forget_all}
use Rattle.ab_term.specs.Variables.{image_by, Substitution, value_in}
use Rattle.ab_term.specs.Sameness.{same_numbered, same_head, same_number}
use Rattle.ab_term.specs.Abstraction.{among, under, may_stand, Only, OnlyAll}
use Rattle.ab_term.proofs.Preservation.{reduce_typed}
use Rattle.ab_term.proofs.Translations.{translate_typed, translate_all_typed}
use Rattle.ab_term.proofs.Closed.{closed_typed}
use Rattle.ab_term.proofs.Images.{IsTypedMap}
use Rattle.ab_term.proofs.Same.{same_numbered-Decides, same_head-Decides}
use Rattle.ab_term.proofs.Closing.{forget-abstracted}
use Rattle.ab_term.proofs.Only.{head_cases, may_stand-under, innermost_stands, include, reduce_only, among-append, among_front, among_behind}
use Rattle.ab_term.proofs.Abstracting.{sends_among, forget_only, forget_all_only}
use Rattle.ab_term.proofs.Determined.{AreApart, NoIndex, PutsOnly}
use Rattle.ab_unifiers.specs.Patterns.{value, applied, kept, kept_type}
use Rattle.ab_unifiers.specs.Replacements.{holds, one}
use Rattle.ab_unifiers.proofs.Views.{IsPattern}
use Rattle.ab_unifiers.proofs.Values.{pattern_named, applied_typed, forget_pattern}
use Rattle.ab_unifiers.proofs.Readings.{pattern_only, pattern_distinct, applied_only, kept_among, kept_distinct, kept_named}
use Rattle.ab_unifiers.proofs.Falling.{map_length}
use Rattle.ab_unifiers.proofs.Pruning.{kept_pass}
use Rattle.ab_unifiers.proofs.Determined.{determined}
use Rattle.ab_unifiers.proofs.Following.{Put, only_on, only_on_fits, Fits, Follows, follow, with_new, with_new_typed, with_new_has, with_new_some, with_new_agrees, with_new_applied}

-- what may stand among both lists
abbrev Common : List (Head ℕ) → List (Head ℕ) → List (Head ℕ) → Type 0
Common ns ms ks = (g : Head ℕ) → may_stand ns g ≡ true → may_stand ms g ≡ true → may_stand ks g ≡ true

common_under : (ns ms ks : List (Head ℕ)) → Common ns ms ks → Common (under ns) (under ms) (under ks)
common_under ns ms ks c g a b = go (head_cases g)
  where
    go : (g ≡ index 0) ⊎ ((h : Head ℕ) × (g ≡ shift_head 0 h)) → may_stand (under ks) g ≡ true
    go (inl p) = ap (may_stand (under ks)) p ∙ innermost_stands ks
    go (inr p) = ap (may_stand (under ks)) p.1 ∙ may_stand-under ks p.0
        ∙ c p.0 (sym (may_stand-under ns p.0) ∙ ap (may_stand (under ns)) (sym p.1) ∙ a) (sym (may_stand-under ms p.0) ∙ ap (may_stand (under ms)) (sym p.1) ∙ b)

module _ {Hint : Type 0} where
  mutual
    pub both_only : (ns ms ks : List (Head ℕ)) → Common ns ms ks → (t : Term ℕ Hint) → Only ns t → Only ms t → Only ks t
    both_only ns ms ks c (lam A x t) o q = both_only (under ns) (under ms) (under ks) (common_under ns ms ks c) t o q
    both_only ns ms ks c (spine h ts) o q = (c h o.0 q.0, both_all_only ns ms ks c ts o.1 q.1)

    both_all_only : (ns ms ks : List (Head ℕ)) → Common ns ms ks → (ts : Terms ℕ Hint) → OnlyAll ns ts → OnlyAll ms ts → OnlyAll ks ts
    both_all_only ns ms ks c no_terms o q = tt
    both_all_only ns ms ks c (term t ts) o q = (both_only ns ms ks c t o.0 q.0, both_all_only ns ms ks c ts o.1 q.1)

-- what passes the test is kept
pub kept_has : (names gs : List (Head ℕ)) (g : Head ℕ) → among gs g ≡ true → among names g ≡ true → among (kept (map (among names) gs) gs) g ≡ true
kept_has names [] g a b = absurd (false≢true a)
kept_has names (h ∷ hs) g a b = go (or_cases (same_head h g) (among hs g) a) (kept_has names hs g)
  where
    go : (same_head h g ≡ true) ⊎ (among hs g ≡ true) → (among hs g ≡ true → among names g ≡ true → among (kept (map (among names) hs) hs) g ≡ true) → among (cond (among names h) (h ∷ kept (map (among names) hs) hs) (kept (map (among names) hs) hs)) g ≡ true
    go (inl s) rest =
        ap (λ k. among (cond (among names k) (h ∷ kept (map (among names) hs) hs) (kept (map (among names) hs) hs)) g) ((same_head-Decides h g).0 s)
        ∙ ap (λ t. among (cond t (h ∷ kept (map (among names) hs) hs) (kept (map (among names) hs) hs)) g) b
        ∙ ap (λ t. t || among (kept (map (among names) hs) hs) g) s
    go (inr m) rest = last (among names h) (rest m b)
      where
        last : (t : Bool) → among (kept (map (among names) hs) hs) g ≡ true → among (cond t (h ∷ kept (map (among names) hs) hs) (kept (map (among names) hs) hs)) g ≡ true
        last true q = among_behind (h ∷ []) (kept (map (among names) hs) hs) g q
        last false q = q

in_both : (others gs hs : List (Head ℕ)) (g : Head ℕ) → (among (gs ++ others) g ≡ true) → (among (hs ++ others) g ≡ true) → among (kept (map (among hs) gs) gs ++ others) g ≡ true
in_both others gs hs g a b = elim (among-append gs others g a) [ inl i ↦ (elim (among-append hs others g b) [ inl j ↦ among_front (kept (map (among hs) gs) gs) others g (kept_has hs gs g i j) | inr j ↦ among_behind (kept (map (among hs) gs) gs) others g j ]) | inr j ↦ among_behind (kept (map (among hs) gs) gs) others g j ]

pub shared : (others gs hs : List (Head ℕ)) → Common (gs ++ others) (hs ++ others) (kept (map (among hs) gs) gs ++ others)
shared others gs hs (constant c) s r = refl
shared others gs hs (logical l) s r = refl
shared others gs hs (nominal a) s r = in_both others gs hs (nominal a) s r
shared others gs hs (variable y) s r = refl
shared others gs hs (index i) s r = in_both others gs hs (index i) s r

module _ {Hint : Type 0} where
  pub value_one : (z : Variable ℕ) (v : Term ℕ Hint) (y : Variable ℕ) (u : Term ℕ Hint) → value_in same_number ((z, v) ∷ []) y ≡ Some u → (z ≡ y) × (v ≡ u)
  value_one z v y u e = go (same_numbered z y) refl e
    where
      go : (b : Bool) → same_numbered z y ≡ b → cond b (Some v) None ≡ Some u → (z ≡ y) × (v ≡ u)
      go true s e = let equal : v ≡ u = cc in ((same_numbered-Decides z y).0 s, equal)
      go false s e = absurd (cc)

  pub value_other : (z : Variable ℕ) (v : Term ℕ Hint) (s : Substitution ℕ Hint) (y : Variable ℕ) → value_in same_number ((z, v) ∷ s) y ≡ None → (same_numbered z y ≡ false) × (value_in same_number s y ≡ None)
  value_other z v s y e = go (same_numbered z y) refl e
    where
      go : (b : Bool) → same_numbered z y ≡ b → cond b (Some v) (value_in same_number s y) ≡ None → (same_numbered z y ≡ false) × (value_in same_number s y ≡ None)
      go true q e = absurd (cc)
      go false q e = (q, e)

module _ (sg : Signature) (others : List (Head ℕ)) (none : NoIndex others) {Hint : Type 0} (x : Hint) where
  -- the value for a variable, of a term that becomes what f makes of the variable with its names
  pub valued : {G : List Ty} {k : List ℕ} (z : Variable ℕ) {us : Terms ℕ Hint} {hs : List (Head ℕ)} (F : Put) → IsTypedMap sg F → PutsOnly others F → IsPattern z.type us hs → TakeType sg G us z.type (kind k) → AreApart hs others → (t : Term ℕ Hint) → HasType sg G t (kind k) → Only hs t → (v : Term ℕ (Unit {0})) → HasType sg [] v z.type → Only others v → image_by F (forget t) ≡ reduce z.type v (forget_all us) → image_by F (forget (value x z hs t)) ≡ v
  valued z {hs = hs} F typed has p ds a t d o v dv ov e =
      ap (image_by F) (forget-abstracted x z.type hs t)
      ∙ determined sg others none F typed has (forget t) v (forget_pattern p) (translate_all_typed sg (λ y. y) (λ y. tt) ds) a (translate_typed sg (λ y. y) (λ y. tt) d) (forget_only hs t o) dv ov e

  -- the names of what a value becomes
  pub given_only : {A : Ty} {us : Terms ℕ Hint} {hs : List (Head ℕ)} → IsPattern A us hs → (v : Term ℕ (Unit {0})) → Only others v → Only (hs ++ others) (reduce A v (forget_all us))
  given_only {A = A} {us = us} {hs = hs} p v o =
      reduce_only A (hs ++ others) v (forget_all us) (include others (hs ++ others) (sends_among others (hs ++ others) (λ g e. among_behind hs others g e)) v o)
      (forget_all_only (hs ++ others) us (pattern_only (hs ++ others) p (λ g e. among_front hs others g e)))

  module _ (f : Put) (zs zs2 : List (Variable ℕ)) (fits : Fits sg others zs f) where
    -- ONE VARIABLE, for a term over its names
    pub put_follows : (n : ℕ) {G : List Ty} {k : List ℕ} (z : Variable ℕ) {us : Terms ℕ Hint} {hs : List (Head ℕ)} → holds zs z ≡ true
        → ((y : Variable ℕ) → holds zs2 y ≡ true → holds zs y ≡ true) → ((y : Variable ℕ) → same_numbered z y ≡ false → holds zs y ≡ true → holds zs2 y ≡ true)
        → IsPattern z.type us hs → TakeType sg G us z.type (kind k) → AreApart hs others → (t : Term ℕ Hint) → HasType sg G t (kind k) → Only hs t
        → ((v : Term ℕ (Unit {0})) → f z ≡ Some v → image_by (only_on zs2 f) (forget t) ≡ reduce z.type v (forget_all us))
        → Follows sg others n zs2 (one x z hs t) f
    put_follows n z {hs = hs} h sub keep p ds a t d o e =
        let fits2 = only_on_fits sg others zs2 f fits.typed fits.has (λ y q. fits.some y (sub y q)) in
        follow sg others f f zs zs2 n (one x z hs t) fits fits.typed fits.has (λ y q. fits.some y (sub y q)) (λ y l. refl)
        (λ y q b. keep y (value_other z (value x z hs t) [] y q).0 b)
        (λ y u q. let r = value_one z (value x z hs t) y u q in (subst (λ w. holds zs w ≡ true) r.0 h, λ v g. let own : f z ≡ Some v = ap f r.0 ∙ g in ap (λ s. image_by (only_on zs2 f) (forget s)) (sym r.1) ∙ valued z (only_on zs2 f) fits2.typed fits2.has p ds a t d o v (fits.typed z v own) (fits.has z v own) (e v own)))

    -- ONE VARIABLE, for a new one over some of its names
    pub narrow_follows : (n : ℕ) {G : List Ty} {k : List ℕ} (z : Variable ℕ) {us : Terms ℕ Hint} {gs : List (Head ℕ)} (keep : List Bool) → holds zs z ≡ true → length keep ≡ length gs
        → holds zs2 (record { name = n; type = kept_type keep z.type }) ≡ true
        → ((y : Variable ℕ) → holds zs2 y ≡ true → (same_numbered (record { name = n; type = kept_type keep z.type }) y ≡ true) ⊎ (holds zs y ≡ true))
        → ((y : Variable ℕ) → same_numbered z y ≡ false → holds zs y ≡ true → holds zs2 y ≡ true)
        → IsPattern z.type us gs → TakeType sg G us z.type (kind k) → AreApart gs others
        → ((v : Term ℕ (Unit {0})) → f z ≡ Some v → Only (kept keep gs ++ others) (reduce z.type v (forget_all us)))
        → Follows sg others n zs2 (one x z gs (applied x (record { name = n; type = kept_type keep z.type }) (kept keep gs))) f
    narrow_follows n {G = G} {k = k} z {us = us} {gs = gs} keep h flags hw sub stays p ds a o =
        let w : Variable ℕ = record { name = n; type = kept_type keep z.type } in
        let ks = kept keep gs in
        let value_of = fits.some z h in
        let v0 : Term ℕ (Unit {0}) = value_of.0 in
        let R : Term ℕ (Unit {0}) = reduce z.type v0 (forget_all us) in
        let R_typed : HasType sg G R (kind k) = reduce_typed sg z.type G v0 (forget_all us) k (closed_typed sg G (fits.typed z v0 value_of.1)) (translate_all_typed sg (λ y. y) (λ y. tt) ds) in
        let R_only = o v0 value_of.1 in
        let named = kept_named keep flags (pattern_named sg p ds) in
        let distinct = kept_distinct keep gs (pattern_distinct p) in
        let g = with_new sg others none f zs fits G k w ks named distinct R R_typed R_only in
        let g_typed = with_new_typed sg others none f zs fits G k w ks named distinct R R_typed R_only in
        let g_has = with_new_has sg others none f zs fits G k w ks named distinct R R_typed R_only in
        let g_some : (y : Variable ℕ) → holds zs2 y ≡ true → (u : Term ℕ (Unit {0})) × (g y ≡ Some u) = λ y q. with_new_some sg others none f zs fits G k w ks named distinct R R_typed R_only y (sub y q) in
        let fits2 = only_on_fits sg others zs2 g g_typed g_has g_some in
        let t : Term ℕ Hint = applied x w ks in
        let becomes : image_by (only_on zs2 g) (forget t) ≡ R = with_new_applied sg others none f zs fits G k w ks named distinct R R_typed R_only x zs2 hw in
        follow sg others f g zs zs2 n (one x z gs t) fits g_typed g_has g_some (with_new_agrees sg others none f zs fits G k w ks named distinct R R_typed R_only)
        (λ y q b. stays y (value_other z (value x z gs t) [] y q).0 b)
        (λ y u q. let r = value_one z (value x z gs t) y u q in (subst (λ w. holds zs w ≡ true) r.0 h, λ v e. let own : f z ≡ Some v = ap f r.0 ∙ e in let equal : v0 ≡ v = (let both : Some v0 ≡ Some v = sym value_of.1 ∙ own in cc) in ap (λ s. image_by (only_on zs2 g) (forget s)) (sym r.1) ∙ valued z (only_on zs2 g) fits2.typed fits2.has p ds a t (applied_typed sg x w k named) (applied_only x w ks gs (kept_among keep gs)) v (fits.typed z v own) (fits.has z v own) (becomes ∙ ap (λ s. reduce z.type s (forget_all us)) equal)))

    -- TWO VARIABLES, for a new one over their common names
    pub joined_follows : (n : ℕ) {G : List Ty} {k : List ℕ} (y z : Variable ℕ) {ts us : Terms ℕ Hint} {gs hs : List (Head ℕ)} → holds zs y ≡ true → holds zs z ≡ true
        → holds zs2 (record { name = n; type = kept_type (map (among hs) gs) y.type }) ≡ true
        → ((v : Variable ℕ) → holds zs2 v ≡ true → (same_numbered (record { name = n; type = kept_type (map (among hs) gs) y.type }) v ≡ true) ⊎ (holds zs v ≡ true))
        → ((v : Variable ℕ) → same_numbered y v ≡ false → same_numbered z v ≡ false → holds zs v ≡ true → holds zs2 v ≡ true)
        → IsPattern y.type ts gs → TakeType sg G ts y.type (kind k) → AreApart gs others → IsPattern z.type us hs → TakeType sg G us z.type (kind k) → AreApart hs others
        → ((v u : Term ℕ (Unit {0})) → f y ≡ Some v → f z ≡ Some u → reduce y.type v (forget_all ts) ≡ reduce z.type u (forget_all us))
        → Follows sg others n zs2 (one x y gs (applied x (record { name = n; type = kept_type (map (among hs) gs) y.type }) (kept (map (among hs) gs) gs)) ++ one x z hs (applied x (record { name = n; type = kept_type (map (among hs) gs) y.type }) (kept (map (among hs) gs) gs))) f
    joined_follows n {G = G} {k = k} y z {ts = ts} {us = us} {gs = gs} {hs = hs} hy hz hw sub stays p ds a q es b alike =
        let keep = map (among hs) gs in
        let w : Variable ℕ = record { name = n; type = kept_type keep y.type } in
        let ks = kept keep gs in
        let y_value = fits.some y hy in
        let z_value = fits.some z hz in
        let vy : Term ℕ (Unit {0}) = y_value.0 in
        let vz : Term ℕ (Unit {0}) = z_value.0 in
        let R : Term ℕ (Unit {0}) = reduce y.type vy (forget_all ts) in
        let equal_sides : R ≡ reduce z.type vz (forget_all us) = alike vy vz y_value.1 z_value.1 in
        let R_typed : HasType sg G R (kind k) = reduce_typed sg y.type G vy (forget_all ts) k (closed_typed sg G (fits.typed y vy y_value.1)) (translate_all_typed sg (λ y. y) (λ y. tt) ds) in
        let R_first : Only (gs ++ others) R = given_only p vy (fits.has y vy y_value.1) in
        let R_second : Only (hs ++ others) R = subst (Only (hs ++ others)) (sym equal_sides) (given_only q vz (fits.has z vz z_value.1)) in
        let R_only : Only (ks ++ others) R = both_only (gs ++ others) (hs ++ others) (ks ++ others) (shared others gs hs) R R_first R_second in
        let flags : length keep ≡ length gs = map_length (among hs) gs in
        let named = kept_named keep flags (pattern_named sg p ds) in
        let distinct = kept_distinct keep gs (pattern_distinct p) in
        let g = with_new sg others none f zs fits G k w ks named distinct R R_typed R_only in
        let g_typed = with_new_typed sg others none f zs fits G k w ks named distinct R R_typed R_only in
        let g_has = with_new_has sg others none f zs fits G k w ks named distinct R R_typed R_only in
        let g_some : (v : Variable ℕ) → holds zs2 v ≡ true → (u : Term ℕ (Unit {0})) × (g v ≡ Some u) = λ v e. with_new_some sg others none f zs fits G k w ks named distinct R R_typed R_only v (sub v e) in
        let fits2 = only_on_fits sg others zs2 g g_typed g_has g_some in
        let t : Term ℕ Hint = applied x w ks in
        let becomes : image_by (only_on zs2 g) (forget t) ≡ R = with_new_applied sg others none f zs fits G k w ks named distinct R R_typed R_only x zs2 hw in
        let t_typed = applied_typed sg x w k named in
        let first : image_by (only_on zs2 g) (forget (value x y gs t)) ≡ vy =
        valued y (only_on zs2 g) fits2.typed fits2.has p ds a t t_typed (applied_only x w ks gs (kept_among keep gs)) vy (fits.typed y vy y_value.1) (fits.has y vy y_value.1) becomes in
        let second : image_by (only_on zs2 g) (forget (value x z hs t)) ≡ vz =
        valued z (only_on zs2 g) fits2.typed fits2.has q es b t t_typed (applied_only x w ks hs (kept_pass hs gs)) vz (fits.typed z vz z_value.1) (fits.has z vz z_value.1) (becomes ∙ equal_sides) in
        follow sg others f g zs zs2 n ((y, value x y gs t) ∷ (z, value x z hs t) ∷ []) fits g_typed g_has g_some (with_new_agrees sg others none f zs fits G k w ks named distinct R R_typed R_only)
        (λ v e h. let r = value_other y (value x y gs t) ((z, value x z hs t) ∷ []) v e in stays v r.0 (value_other z (value x z hs t) [] v r.1).0 h)
        (λ v u e. at_two (only_on zs2 g) (value x y gs t) (value x z hs t) vy vz v u y_value.1 z_value.1 first second (same_numbered y v) refl e)
      where
        at_two : (F : Put) (vy0 vz0 : Term ℕ Hint) (vy vz : Term ℕ (Unit {0})) (v : Variable ℕ) (u : Term ℕ Hint) → f y ≡ Some vy → f z ≡ Some vz → image_by F (forget vy0) ≡ vy → image_by F (forget vz0) ≡ vz → (t : Bool) → same_numbered y v ≡ t → cond t (Some vy0) (value_in same_number ((z, vz0) ∷ []) v) ≡ Some u → (holds zs v ≡ true) × ((r : Term ℕ (Unit {0})) → f v ≡ Some r → image_by F (forget u) ≡ r)
        at_two F vy0 vz0 vy vz v u fy fz first second true s e =
            let equal : vy0 ≡ u = cc in
            let var : y ≡ v = (same_numbered-Decides y v).0 s in
            (subst (λ w. holds zs w ≡ true) var hy, λ r g. ap (λ s. image_by F (forget s)) (sym equal) ∙ first ∙ (let both : Some vy ≡ Some r = sym fy ∙ ap f var ∙ g in cc))
        at_two F vy0 vz0 vy vz v u fy fz first second false s e =
            let r = value_one z vz0 v u e in
            (subst (λ w. holds zs w ≡ true) r.0 hz, λ q g. ap (λ s. image_by F (forget s)) (sym r.1) ∙ second ∙ (let both : Some vz ≡ Some q = sym fz ∙ ap f r.0 ∙ g in cc))
