-- WHAT UNIFIES IS READ OFF: along the steps to an answer, variables that no left side holds and that can't be read off are
-- never touched, so in the end no right side depended on them.
use Rattle.std.proofs.Common.{◌≡◌, ℕ, List, [], ◌∷◌, ◌++◌, map, length, true, false, Some, None, sym, ◌∙◌, ap, subst}
use Rattle.ab_term.specs.Terms.{Nominal, Variable, Head, nominal, Term}
use Rattle.ab_term.specs.Typing.{Signature}
use Rattle.ab_term.specs.Translation.{forget}
use Rattle.ab_term.specs.Variables.{Substitution, value_in, image, image_by, composition, IsTyped}
use Rattle.ab_term.specs.Sameness.{same_number}
use Rattle.ab_term.proofs.Determined.{NoIndex}
use Rattle.ab_unifiers.specs.Replacements.{Cell, Change, holds}
use Rattle.ab_unifiers.specs.Unification.{Equation, State, Answer, unified, apart, stuck, Result, parts, replaced, rule, image_of, Solves, at_end, by_step}
use Rattle.ab_unifiers.specs.Unifiers.{given, IsTypedEquation, AreTyped, AreKnown, AreOver}
use Rattle.ab_unifiers.specs.Clauses.{Within}
use Rattle.ab_unifiers.proofs.Avoiding.{Without, avoids_if, image_avoids}
use Rattle.ab_unifiers.proofs.Steps.{OnResult}
use Rattle.ab_unifiers.proofs.Following.{Put, Fits, Follows, follows_on}
use Rattle.ab_unifiers.proofs.General.{Scoped, AllAlike}
use Rattle.ab_pattern_matching.specs.Reading.{can_read, Every, HasNoneOf, but, NoneRead, NoneMatters, ReadInTurn, LeftsWithout, HoldNoneOf}
use Rattle.ab_pattern_matching.proofs.Lists.{every_weaker, every_map, every_both, every_split}
use Rattle.ab_pattern_matching.proofs.Ruled.{Replaces, Gives, rule_gives, replaced_by}
use Rattle.ab_pattern_matching.proofs.Untouched.{Untouched, untouched, have_patterns}
use Rattle.ab_pattern_matching.proofs.Absent.{unread_absent, absent_alike}
use Rattle.ab_pattern_matching.proofs.Parts.{lefts_of_parts, unread_parts, matterless_whole}
use Rattle.ab_pattern_matching.proofs.Turns.{Stepped, parted, changed, step_view, Ended, all_solved, none_applies, are_apart, end_view}
use Rattle.ab_pattern_matching.proofs.Begun.{no_index_among, begins}
use Rattle.ab_pattern_matching.proofs.Going.{avoids_then, transported, Going, around, taken_out, in_between, parts_going, change_going}

module _ {Hint : Type 0} (x : Hint) (s : State Hint) where
  pub gives_of : (e : Equation Hint) (r : Result Hint) → rule x s.cells s.flexible e ≡ Some r → Gives x s.cells s.flexible e.left e.right r
  gives_of e r q = subst (OnResult (Gives x s.cells s.flexible e.left e.right)) q (rule_gives x s.cells s.flexible e)

  pub replaces_of : (e : Equation Hint) (c : Change Hint) → rule x s.cells s.flexible e ≡ Some (replaced c) → Replaces x s.cells s.flexible e.left e.right c
  replaces_of e c q = replaced_by x s.cells s.flexible (gives_of e (replaced c) q)

-- VARIABLES THAT STAND NOWHERE IN WHAT IS REPLACED are left alone, and what holds of right sides holds of what becomes of them
module _ (sg : Signature) {Hint : Type 0} (x : Hint) (s : State Hint) (f : Put) (us : List (Variable ℕ)) (known : AreKnown s.cells s.flexible) (within : Within us s.flexible)
    (t u : Term ℕ Hint) (c : Change Hint) (k : Replaces x s.cells s.flexible t u c) (left : HasNoneOf us t) (right : HasNoneOf us u) where
  one_untouched : (y : Variable ℕ) (h : holds us y ≡ true) → Untouched x s.cells s.flexible y (known y (within y h)) c
  one_untouched y h = untouched x s.cells s.flexible y (known y (within y h)) k (left y h) (right y h)

  pub stay_within : Within us c.flexible
  stay_within y h = (one_untouched y h).stays (within y h)

  pub stay_none : (y : Variable ℕ) → holds us y ≡ true → value_in same_number c.pairs y ≡ None
  stay_none y h = (one_untouched y h).none

  pub stay_absent : (y : Variable ℕ) → holds us y ≡ true → Without y (value_in same_number c.pairs)
  stay_absent y h = (one_untouched y h).absent

  -- a term without them becomes one without them
  pub image_without : (v : Term ℕ Hint) → HasNoneOf us v → HasNoneOf us (image same_number c.pairs v)
  image_without v n y h = avoids_then y (image same_number c.pairs v) (image_avoids y (value_in same_number c.pairs) (stay_absent y h) v (avoids_if y v (n y h)))

  pub lefts_after : (es : List (Equation Hint)) → Every (λ d. HasNoneOf us d.left) es → Every (λ d. HasNoneOf us d.left) (map (image_of c.pairs) es)
  lefts_after es a = every_map (λ d. HasNoneOf us d.left) (image_of c.pairs) es (every_weaker (λ d. HasNoneOf us d.left) (λ d. HasNoneOf us (image same_number c.pairs d.left)) (λ d n. image_without d.left n) es a)

  module _ {others : List (Head ℕ)} (w : Follows sg others (length s.cells) c.flexible c.pairs f) (typed : IsTyped sg c.pairs) where
    pub unread_after : (es : List (Equation Hint)) → Every (IsTypedEquation sg) es → Every (λ d. Scoped others (length s.cells) d.left d.right) es → NoneRead us f es → NoneRead us w.next (map (image_of c.pairs) es)
    unread_after [] t b r = tt
    unread_after (d ∷ es) t b r = (ap (can_read us) (transported sg us (length s.cells) c.flexible c.pairs f typed w stay_none stay_absent t.0.3 b.0.right_known) ∙ r.0, unread_after es t.1 b.1 r.1)

    pub unread_before : (es : List (Equation Hint)) → Every (IsTypedEquation sg) es → Every (λ d. Scoped others (length s.cells) d.left d.right) es → NoneRead us w.next (map (image_of c.pairs) es) → NoneRead us f es
    unread_before [] t b r = tt
    unread_before (d ∷ es) t b r = (ap (can_read us) (sym (transported sg us (length s.cells) c.flexible c.pairs f typed w stay_none stay_absent t.0.3 b.0.right_known)) ∙ r.0, unread_before es t.1 b.1 r.1)

    pub matterless_before : (es : List (Equation Hint)) → Every (IsTypedEquation sg) es → Every (λ d. Scoped others (length s.cells) d.left d.right) es → NoneMatters us w.next (map (image_of c.pairs) es) → NoneMatters us f es
    matterless_before [] t b r = tt
    matterless_before (d ∷ es) t b r = (
      sym (transported sg us (length s.cells) c.flexible c.pairs f typed w stay_none stay_absent t.0.3 b.0.right_known) ∙ r.0 ∙ follows_on sg others typed w t.0.3 b.0.right_known,
      matterless_before es t.1 b.1 r.1,
    )

    pub matterless_after : (es : List (Equation Hint)) → Every (IsTypedEquation sg) es → Every (λ d. Scoped others (length s.cells) d.left d.right) es → NoneMatters us f es → NoneMatters us w.next (map (image_of c.pairs) es)
    matterless_after [] t b r = tt
    matterless_after (d ∷ es) t b r = (
      transported sg us (length s.cells) c.flexible c.pairs f typed w stay_none stay_absent t.0.3 b.0.right_known ∙ r.0 ∙ sym (follows_on sg others typed w t.0.3 b.0.right_known),
      matterless_after es t.1 b.1 r.1,
    )

module _ {Hint : Type 0} (us : List (Variable ℕ)) (f : Put) where
  pub none_matters_at : (es before : List (Equation Hint)) (e : Equation Hint) (behind : List (Equation Hint)) → es ≡ before ++ e ∷ behind → NoneMatters us f (before ++ behind) → image_by (but us f) (forget e.right) ≡ image_by f (forget e.right) → NoneMatters us f es
  none_matters_at es before e behind w a b =
      let P : Equation Hint → Type 0 = λ d. image_by (but us f) (forget d.right) ≡ image_by f (forget d.right) in
      let r = every_split P before behind a in
      subst (NoneMatters us f) (sym w) (every_both P before (e ∷ behind) r.0 (b, r.1))

module _ (sg : Signature) (others : List (Head ℕ)) (none : NoIndex others) {Hint : Type 0} (x : Hint) (us : List (Variable ℕ)) where
  -- what an answer says
  abbrev Says : Put → List (Equation Hint) → Answer Hint → Type 0
  Says f es (unified more q) = NoneMatters us f es
  Says f es apart = Unit {0}
  Says f es (stuck i) = Unit {0}

  says_more : (f g : Put) (es ds : List (Equation Hint)) (a : Answer Hint) → (NoneMatters us f es → NoneMatters us g ds) → Says f es a → Says g ds a
  says_more f g es ds (unified more q) h b = h b
  says_more f g es ds apart h b = tt
  says_more f g es ds (stuck i) h b = tt

  at_the_end : (s : State Hint) (f : Put) (a : Answer Hint) → Ended x s a → Says f s.equations a
  at_the_end s f a (all_solved e) = subst (NoneMatters us f) (sym e) tt
  at_the_end s f a (none_applies e es w n) = tt
  at_the_end s f a are_apart = tt

  -- from a state on, whatever the guess
  abbrev Reads : State Hint → Answer Hint → Type 0
  Reads m a = (f : Put) → Going sg others none x m f → Within us m.flexible → Every (λ d. HasNoneOf us d.left) m.equations → NoneRead us f m.equations → Says f m.equations a

  read_step : (s : State Hint) (f : Put) → Going sg others none x s f → Within us s.flexible → Every (λ d. HasNoneOf us d.left) s.equations → NoneRead us f s.equations → (m : State Hint) → Stepped x s m → (a : Answer Hint) → Reads m a → Says f s.equations a
  read_step s f g w l r m (parted before e es behind q here_rule) a rest_read =
      let here = around sg others none x s f g before e behind q in
      let lefts = taken_out sg others none x (λ d. HasNoneOf us d.left) s.equations before e behind q l in
      let reads = taken_out sg others none x (λ d. can_read us (image_by (but us f) (forget d.right)) ≡ false) s.equations before e behind q r in
      let gives = gives_of x s e (parts es) here_rule in
      let next = rest_read f (parts_going sg others none x s f g before e es behind q here_rule) w
      (in_between sg others none x (λ d. HasNoneOf us d.left) before es behind lefts.1 (lefts_of_parts x s.cells s.flexible us gives lefts.0))
      (in_between sg others none x (λ d. can_read us (image_by (but us f) (forget d.right)) ≡ false) before es behind reads.1 (unread_parts sg x s.cells s.flexible us f g.fits.none w gives reads.0)) in
      says_more f f (before ++ es ++ behind) s.equations a (λ n.
      let P : Equation Hint → Type 0 = λ d. image_by (but us f) (forget d.right) ≡ image_by f (forget d.right) in
      let rest = every_split P (before ++ es) behind n in
      let front = every_split P before es rest.0 in
      none_matters_at us f s.equations before e behind q (every_both P before behind front.0 rest.1)
      (matterless_whole sg x s.cells s.flexible us f g.fits.none w here.typed.2 here.typed.3 lefts.0 gives front.1)) next
  read_step s f g w l r m (changed before e c behind q here_rule) a rest_read =
      let here = around sg others none x s f g before e behind q in
      let lefts = taken_out sg others none x (λ d. HasNoneOf us d.left) s.equations before e behind q l in
      let reads = taken_out sg others none x (λ d. can_read us (image_by (but us f) (forget d.right)) ≡ false) s.equations before e behind q r in
      let k = replaces_of x s e c here_rule in
      let right = unread_absent s.flexible us f g.fits.none w e.right (have_patterns x s.cells s.flexible k).1 reads.0 in
      let after = change_going sg others none x s f g before e c behind q here_rule in
      let typed = after.safe.typed in
      let next = rest_read after.follows.next (after.going (composition same_number s.pairs c.pairs))
      (stay_within sg x s f us g.known w e.left e.right c k lefts.0 right)
      (lefts_after sg x s f us g.known w e.left e.right c k lefts.0 right (before ++ behind) lefts.1)
      (unread_after sg x s f us g.known w e.left e.right c k lefts.0 right after.follows typed (before ++ behind) here.rest_typed here.rest_scoped reads.1) in
      says_more after.follows.next f (map (image_of c.pairs) (before ++ behind)) s.equations a (λ n.
      none_matters_at us f s.equations before e behind q
      (matterless_before sg x s f us g.known w e.left e.right c k lefts.0 right after.follows typed (before ++ behind) here.rest_typed here.rest_scoped n)
      (absent_alike us f e.right right)) next

  -- ALONG THE STEPS
  pub read_off : (s : State Hint) (f : Put) → Going sg others none x s f → Within us s.flexible → Every (λ d. HasNoneOf us d.left) s.equations → NoneRead us f s.equations → (a : Answer Hint) → Solves x s a → Says f s.equations a
  read_off s f g w l r a (at_end e) = at_the_end s f a (end_view x s a e)
  read_off s f g w l r a (by_step {r = m} e p) = read_step s f g w l r m (step_view x s m e) a (λ f2 g2 w2 l2 r2. read_off m f2 g2 w2 l2 r2 a p)

-- OF A PROBLEM AS IT IS GIVEN
module _ (sg : Signature) {Hint : Type 0} (x : Hint) (es : List (Equation Hint)) (cells : List (Cell Hint)) (ys : List (Variable ℕ)) (ns : List Nominal) (f : Put) (typed : AreTyped sg es) (known : AreKnown cells ys) (over : AreOver cells es) (clean : HoldNoneOf ns es)
    (fits : Fits sg (map nominal ns) ys f) (alike : AllAlike f es) where
  pub problem_read : (zs : List (Variable ℕ)) → Within zs ys → LeftsWithout zs es → (more : List (Cell Hint)) (q : Substitution ℕ Hint) → Solves x (given es cells ys) (unified more q) → ReadInTurn zs f es
  problem_read zs w l more q p us v r =
      read_off sg (map nominal ns) (no_index_among ns) x us (given es cells ys) f (begins sg x es cells ys ns f typed known over clean fits alike) (λ y h. w y (v y h))
      (every_weaker (λ e. HasNoneOf zs e.left) (λ e. HasNoneOf us e.left) (λ e n y h. n y (v y h)) es l) r (unified more q) p
