-- An equation and its parts: what can be read off, and what matters, is the same for both.
use Rattle.std.proofs.Common.{◌≡◌, ℕ, List, true, false, Some, None, refl, sym, ◌∙◌, ap, subst}
use Rattle.std.proofs.lemmas.Bool.{or_parts, or_from, false_from_ne_true, false≢true}
use Rattle.ab_term.specs.Types.{Ty, kind}
use Rattle.ab_term.specs.Terms.{Variable, Head, Term, lam, spine, Terms, no_terms, term}
use Rattle.ab_term.specs.Typing.{Signature, head_type, HasType, TakeType, typed_spine, take_none, take_term}
use Rattle.ab_term.specs.Translation.{forget, forget_all}
use Rattle.ab_term.specs.Variables.{variables_of_head, variables, variables_of_all, image_by, image_all_by}
use Rattle.ab_term.proofs.Same.{same_head-Decides, same_term-Decides}
use Rattle.ab_term.proofs.Depends.{image_unmoved}
use Rattle.ab_term.proofs.PastHints.{variables-forget, variables_past_hints}
use Rattle.ab_unifiers.specs.Replacements.{Cell, holds, is_flexible}
use Rattle.ab_unifiers.specs.Unification.{Equation, parts, paired}
use Rattle.ab_unifiers.specs.Clauses.{Within}
use Rattle.ab_unifiers.proofs.Agreeing.{contains_holds}
use Rattle.ab_search_trees.specs.Lifting.{Guess}
use Rattle.ab_pattern_matching.specs.Reading.{can_read, can_read_one, Every, HasNoneOf, but}
use Rattle.ab_pattern_matching.proofs.Ruled.{Gives, are_equal, are_bodies, are_heads}
use Rattle.ab_pattern_matching.proofs.Absent.{no_front, no_behind, none_there, but_none, rigid_stays, rigid_image_read, absent_alike}

module _ {Hint : Type 0} where
  -- past hints the same variables stand there
  pub same_absent : (us : List (Variable ℕ)) (t u : Term ℕ Hint) → forget t ≡ forget u → HasNoneOf us t → HasNoneOf us u
  same_absent us t u e n y h = ap (λ l. holds l y) (sym (variables_past_hints t u e)) ∙ n y h

  pub forgotten_absent : (us : List (Variable ℕ)) (t : Term ℕ Hint) → HasNoneOf us t → HasNoneOf us (forget t)
  forgotten_absent us t n y h = ap (λ l. holds l y) (variables-forget t) ∙ n y h

  -- a term that holds none of what is put in for
  pub image_still : (ys : List (Variable ℕ)) (f : Guess) → ((y : Variable ℕ) → holds ys y ≡ false → f y ≡ None) → (t : Term ℕ Hint) → HasNoneOf ys t → image_by f (forget t) ≡ forget t
  image_still ys f none t n = image_unmoved f (forget t) (λ y m. none y (false_from_ne_true (holds ys y) (λ h. false≢true (sym (forgotten_absent ys t n y h) ∙ contains_holds (variables (forget t)) y m))))

  paired_absent : (us : List (Variable ℕ)) (p : ℕ) (ts ss : Terms ℕ Hint) → ((y : Variable ℕ) → holds us y ≡ true → holds (variables_of_all ts) y ≡ false) → Every (λ e. HasNoneOf us e.left) (paired p ts ss)
  paired_absent us p no_terms ss n = tt
  paired_absent us p (term t ts) no_terms n = tt
  paired_absent us p (term t ts) (term s ss) n = (λ y h. no_front (variables t) (variables_of_all ts) y (n y h), paired_absent us p ts ss (λ y h. no_behind (variables t) (variables_of_all ts) y (n y h)))

  -- what a left side doesn't hold, those of its parts don't
  pub lefts_of_parts : (x : Hint) (cells : List (Cell Hint)) (ys us : List (Variable ℕ)) {t u : Term ℕ Hint} {es : List (Equation Hint)} → Gives x cells ys t u (parts es) → HasNoneOf us t → Every (λ e. HasNoneOf us e.left) es
  lefts_of_parts x cells ys us (are_equal s) n = tt
  lefts_of_parts x cells ys us (are_bodies p) n = (n, tt)
  lefts_of_parts x cells ys us (are_heads {g = g} {ts = ts} {us = ss} p r q s) n = paired_absent us p ts ss (λ y h. no_behind (variables_of_head g) (variables_of_all ts) y (n y h))

-- arguments of one type
module _ (sg : Signature) {Hint : Type 0} where
  heads_typed : {G : List Ty} {T : Ty} {g h : Head ℕ} {ts us : Terms ℕ Hint} → HasType sg G (spine g ts) T → HasType sg G (spine h us) T → g ≡ h → (D : Ty) × (k : List ℕ) × TakeType sg G ts D (kind k) × TakeType sg G us D (kind k)
  heads_typed {G = G} {g = g} {h = h} {us = us} (typed_spine {A = D} {k = k} e ds) (typed_spine {A = E} e2 es) same =
      let one : Some D ≡ Some E = sym e ∙ ap (head_type sg G) same ∙ e2 in
      let equal : E ≡ D = cc in
      (D, k, ds, subst (λ C. TakeType sg G us C (kind k)) equal es)

module _ (sg : Signature) {Hint : Type 0} (x : Hint) (cells : List (Cell Hint)) (ys us : List (Variable ℕ)) (f : Guess) (none : (y : Variable ℕ) → holds ys y ≡ false → f y ≡ None) (within : Within us ys) where
  abbrev pub Unread : Term ℕ Hint → Type 0
  Unread t = can_read us (image_by (but us f) (forget t)) ≡ false

  abbrev pub Matterless : Term ℕ Hint → Type 0
  Matterless t = image_by (but us f) (forget t) ≡ image_by f (forget t)

  paired_unread : (p : ℕ) (ts ss : Terms ℕ Hint) → can_read_one us (image_all_by (but us f) (forget_all ss)) ≡ false → Every (λ e. Unread e.right) (paired p ts ss)
  paired_unread p no_terms ss r = tt
  paired_unread p (term t ts) no_terms r = tt
  paired_unread p (term t ts) (term s ss) r =
      let rs = or_parts (can_read us (image_by (but us f) (forget s))) (can_read_one us (image_all_by (but us f) (forget_all ss))) r in
      (rs.0, paired_unread p ts ss rs.1)

  unread_paired : {G : List Ty} {D : Ty} {k l : List ℕ} (p : ℕ) {ts ss : Terms ℕ Hint} → TakeType sg G ts D (kind k) → TakeType sg G ss D (kind l) → Every (λ e. Unread e.right) (paired p ts ss) → can_read_one us (image_all_by (but us f) (forget_all ss)) ≡ false
  unread_paired p take_none take_none a = refl
  unread_paired p (take_term d ds) (take_term {t = s} {ts = ss} e es) a = or_from (can_read us (image_by (but us f) (forget s))) (can_read_one us (image_all_by (but us f) (forget_all ss))) a.0 (unread_paired p ds es a.1)

  paired_matterless : (p : ℕ) (ts ss : Terms ℕ Hint) → image_all_by (but us f) (forget_all ss) ≡ image_all_by f (forget_all ss) → Every (λ e. Matterless e.right) (paired p ts ss)
  paired_matterless p no_terms ss e = tt
  paired_matterless p (term t ts) no_terms e = tt
  paired_matterless p (term t ts) (term s ss) e =
      let first : image_by (but us f) (forget s) ≡ image_by f (forget s) = cc in
      let rest : image_all_by (but us f) (forget_all ss) ≡ image_all_by f (forget_all ss) = cc in
      (first, paired_matterless p ts ss rest)

  matterless_paired : {G : List Ty} {D : Ty} {k l : List ℕ} (p : ℕ) {ts ss : Terms ℕ Hint} → TakeType sg G ts D (kind k) → TakeType sg G ss D (kind l) → Every (λ e. Matterless e.right) (paired p ts ss) → image_all_by (but us f) (forget_all ss) ≡ image_all_by f (forget_all ss)
  matterless_paired p take_none take_none a = refl
  matterless_paired p (take_term d ds) (take_term {t = s} {ts = ss} e es) a = ap (λ r. term r (image_all_by (but us f) (forget_all ss))) a.0 ∙ ap (term (image_by f (forget s))) (matterless_paired p ds es a.1)

  without_some : (h : Head ℕ) (ss : Terms ℕ Hint) → is_flexible ys h ≡ false → image_by (but us f) (forget (spine h ss)) ≡ spine h (image_all_by (but us f) (forget_all ss))
  without_some h ss r = rigid_stays ys us f none (but us f) (but_none ys us f none) h (image_all_by (but us f) (forget_all ss)) r

  with_all : (h : Head ℕ) (ss : Terms ℕ Hint) → is_flexible ys h ≡ false → image_by f (forget (spine h ss)) ≡ spine h (image_all_by f (forget_all ss))
  with_all h ss r = rigid_stays ys us f none f none h (image_all_by f (forget_all ss)) r

  -- what can't be read off the whole can't be read off the parts
  pub unread_parts : {t u : Term ℕ Hint} {es : List (Equation Hint)} → Gives x cells ys t u (parts es) → Unread u → Every (λ e. Unread e.right) es
  unread_parts (are_equal s) r = tt
  unread_parts (are_bodies p) r = (r, tt)
  unread_parts (are_heads {h = h} {ts = ts} {us = ss} p a b s) r = paired_unread p ts ss (sym (rigid_image_read ys us f none within h ss b) ∙ r)

  -- and the other way round, where the left side holds nothing flexible
  pub unread_whole : {G : List Ty} {T : Ty} {t u : Term ℕ Hint} {es : List (Equation Hint)} → HasType sg G t T → HasType sg G u T → HasNoneOf ys t → Gives x cells ys t u (parts es) → Every (λ e. Unread e.right) es → Unread u
  unread_whole {t = t} {u = u} d e n (are_equal s) a =
      let right = same_absent ys t u ((same_term-Decides t u).0 s) n in
      ap (can_read us) (image_still ys (but us f) (but_none ys us f none) u right) ∙ none_there us (forget u) (λ y h. forgotten_absent ys u right y (within y h))
  unread_whole d e n (are_bodies p) a = a.0
  unread_whole d e n (are_heads {g = g} {h = h} {ts = ts} {us = ss} p q b s) a =
      let both = heads_typed sg d e ((same_head-Decides g h).0 s) in
      rigid_image_read ys us f none within h ss b ∙ unread_paired p both.2 both.3 a

  -- where the parts don't depend on the variables, the whole doesn't
  pub matterless_whole : {G : List Ty} {T : Ty} {t u : Term ℕ Hint} {es : List (Equation Hint)} → HasType sg G t T → HasType sg G u T → HasNoneOf us t → Gives x cells ys t u (parts es) → Every (λ e. Matterless e.right) es → Matterless u
  matterless_whole {t = t} {u = u} d e n (are_equal s) a = absent_alike us f u (same_absent us t u ((same_term-Decides t u).0 s) n)
  matterless_whole d e n (are_bodies {B = B} p) a = ap (lam B tt) a.0
  matterless_whole d e n (are_heads {g = g} {h = h} {ts = ts} {us = ss} p q b s) a =
      let both = heads_typed sg d e ((same_head-Decides g h).0 s) in
      without_some h ss b ∙ ap (spine h) (matterless_paired p both.2 both.3 a) ∙ sym (with_all h ss b)

  -- and the other way round
  pub matterless_parts : {t u : Term ℕ Hint} {es : List (Equation Hint)} → Gives x cells ys t u (parts es) → Matterless u → Every (λ e. Matterless e.right) es
  matterless_parts (are_equal s) m = tt
  matterless_parts (are_bodies {u = u} p) m = (let body : image_by (but us f) (forget u) ≡ image_by f (forget u) = cc in body, tt)
  matterless_parts (are_heads {h = h} {ts = ts} {us = ss} p a b s) m =
      let both : spine h (image_all_by (but us f) (forget_all ss)) ≡ spine h (image_all_by f (forget_all ss)) = sym (without_some h ss b) ∙ m ∙ with_all h ss b in
      let all : image_all_by (but us f) (forget_all ss) ≡ image_all_by f (forget_all ss) = cc in
      paired_matterless p ts ss all
