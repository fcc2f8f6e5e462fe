-- MATCHING: where no left side holds what may be replaced, a rule that replaces a variable puts in what is read off; and
-- where no rule applies, nothing can be read off.
use Rattle.std.proofs.Common.{◌≡◌, ℕ, List, [], ◌∷◌, ◌++◌, Bool, true, false, cond, ◌||◌, not, Option, Some, None, is_some, refl, sym, ◌∙◌, ap, subst}
use Rattle.std.proofs.lemmas.Bool.{false≢true, and_from, or_from, or_left, false_from_ne_true}
use Rattle.ab_term.specs.Terms.{Variable, Head, constant, logical, nominal, variable, index, Term, lam, spine, Terms, no_terms, term}
use Rattle.ab_term.specs.Types.{Ty}
use Rattle.ab_term.specs.Typing.{Signature, HasType, typed_lam, typed_spine}
use Rattle.ab_term.specs.Translation.{forget, forget_all}
use Rattle.ab_term.specs.Variables.{variables_of_head, variables, variables_of_all, image_by, image, composition}
use Rattle.ab_term.specs.Sameness.{same_numbered, same_head, same_number}
use Rattle.ab_term.specs.Abstraction.{under}
use Rattle.ab_term.proofs.Determined.{NoIndex}
use Rattle.ab_term.proofs.Depends.{image_unmoved}
use Rattle.ab_term.proofs.Forgetting.{forget_plain}
use Rattle.ab_term.proofs.Same.{same_numbered-Decides, same_term-Decides}
use Rattle.ab_unifiers.specs.Patterns.{pattern}
use Rattle.ab_unifiers.specs.Replacements.{Cell, Change, without, holds, is_flexible, has_patterns, all_have_patterns, occurs, no_foreign, pruned_here, pruned, pruned_all}
use Rattle.ab_unifiers.specs.Unification.{Equation, State, Answer, unified, apart, stuck, Result, clash, parts, replaced, or_else, paired, equal_sides, bodies, rigid_heads, begun, put_in, pattern_of, pattern_and_rigid, one_variable, two_variables, either_way, rule, Solves, at_end, by_step}
use Rattle.ab_unifiers.specs.Unifiers.{IsTypedEquation}
use Rattle.ab_unifiers.specs.Clauses.{Within}
use Rattle.ab_unifiers.proofs.Agreeing.{pattern_rigid}
use Rattle.ab_unifiers.proofs.Avoiding.{without_held}
use Rattle.ab_unifiers.proofs.Following.{Put}
use Rattle.ab_unifiers.proofs.General.{Alike}
use Rattle.ab_unifiers.proofs.Keys.{not_itself}
use Rattle.ab_unifiers.proofs.Readings.{pattern_back}
use Rattle.ab_unifiers.proofs.Views.{IsPattern, pattern_end, pattern_more, is_pattern}
use Rattle.ab_pattern_matching.specs.Reading.{can_read, can_read_one, Every, HasNoneOf, but, NoneRead, NoneMatters, ReadInTurn, LeftsWithout}
use Rattle.ab_pattern_matching.proofs.Lists.{every_weaker, every_both, every_split}
use Rattle.ab_pattern_matching.proofs.Ruled.{Replaces, is_solved, is_narrowed, is_put, are_joined, the_other_way}
use Rattle.ab_pattern_matching.proofs.Absent.{no_front, no_behind, no_both, none_there, absent_alike}
use Rattle.ab_pattern_matching.proofs.Parts.{forgotten_absent, image_still, lefts_of_parts, unread_whole, matterless_parts}
use Rattle.ab_pattern_matching.proofs.Turns.{Stepped, parted, changed, step_view, Ended, all_solved, none_applies, are_apart, end_view}
use Rattle.ab_pattern_matching.proofs.Going.{Going, around, taken_out, in_between, parts_going, change_going}
use Rattle.ab_pattern_matching.proofs.Solved.{gives_of, replaces_of, lefts_after, unread_before, matterless_after}

-- A TERM WITHOUT WHAT IS FLEXIBLE
module _ {Hint : Type 0} (ys : List (Variable ℕ)) where
  no_head : (z : Variable ℕ) (ts : Terms ℕ Hint) → HasNoneOf ys (spine (variable z) ts) → holds ys z ≡ true → ⊥
  no_head z ts n h = false≢true (sym (n z h) ∙ or_left (same_numbered z z) (holds (variables_of_all ts) z) ((same_numbered-Decides z z).1 refl))

  pub rigid_head : (h : Head ℕ) (ts : Terms ℕ Hint) → HasNoneOf ys (spine h ts) → is_flexible ys h ≡ false
  rigid_head (constant c) ts n = refl
  rigid_head (logical l) ts n = refl
  rigid_head (nominal a) ts n = refl
  rigid_head (variable z) ts n = false_from_ne_true (holds ys z) (no_head z ts n)
  rigid_head (index i) ts n = refl

  arguments_without : (h : Head ℕ) (ts : Terms ℕ Hint) → HasNoneOf ys (spine h ts) → (y : Variable ℕ) → holds ys y ≡ true → holds (variables_of_all ts) y ≡ false
  arguments_without h ts n y e = no_behind (variables_of_head h) (variables_of_all ts) y (n y e)

  at_head : (h : Head ℕ) (ts : Terms ℕ Hint) → is_flexible ys h ≡ false → all_have_patterns ys ts ≡ true → has_patterns ys (spine h ts) ≡ true
  at_head (constant c) ts r p = p
  at_head (logical l) ts r p = p
  at_head (nominal a) ts r p = p
  at_head (variable z) ts r p = ap (λ b. cond b (is_some (pattern z.type ts)) (all_have_patterns ys ts)) r ∙ p
  at_head (index i) ts r p = p

  mutual
    pub none_patterns : (t : Term ℕ Hint) → HasNoneOf ys t → has_patterns ys t ≡ true
    none_patterns (lam A x t) n = none_patterns t n
    none_patterns (spine h ts) n = at_head h ts (rigid_head h ts n) (none_all_patterns ts (arguments_without h ts n))

    none_all_patterns : (ts : Terms ℕ Hint) → ((y : Variable ℕ) → holds ys y ≡ true → holds (variables_of_all ts) y ≡ false) → all_have_patterns ys ts ≡ true
    none_all_patterns no_terms n = refl
    none_all_patterns (term t ts) n = and_from (has_patterns ys t) (all_have_patterns ys ts) (none_patterns t (λ y e. no_front (variables t) (variables_of_all ts) y (n y e))) (none_all_patterns ts (λ y e. no_behind (variables t) (variables_of_all ts) y (n y e)))

  module _ (x : Hint) where
    mutual
      -- nothing is pruned
      pub pruned_none : (names : List (Head ℕ)) (t : Term ℕ Hint) (c : Change Hint) → HasNoneOf ys t → pruned x ys names t c ≡ c
      pruned_none names (lam A y t) c n = pruned_none (under names) t c n
      pruned_none names (spine h ts) c n =
          ap (λ b. cond b (pruned_here x names (image same_number c.pairs (spine h ts)) c) (pruned_all x ys names ts c)) (rigid_head h ts n)
          ∙ pruned_all_none names ts c (arguments_without h ts n)

      pruned_all_none : (names : List (Head ℕ)) (ts : Terms ℕ Hint) (c : Change Hint) → ((y : Variable ℕ) → holds ys y ≡ true → holds (variables_of_all ts) y ≡ false) → pruned_all x ys names ts c ≡ c
      pruned_all_none names no_terms c n = refl
      pruned_all_none names (term t ts) c n =
          ap (pruned_all x ys names ts) (pruned_none names t c (λ y e. no_front (variables t) (variables_of_all ts) y (n y e)))
          ∙ pruned_all_none names ts c (λ y e. no_behind (variables t) (variables_of_all ts) y (n y e))

-- WHAT IS REPLACED, where one side holds nothing flexible
module _ {Hint : Type 0} (x : Hint) (cells : List (Cell Hint)) (ys : List (Variable ℕ)) where
  -- what may still be replaced could be before, and doesn't stand on the other side
  pub record Matches (u : Term ℕ Hint) (c : Change Hint) : Type 0 where
    pub fewer : Within c.flexible ys
    pub gone : HasNoneOf c.flexible u
    pub same : c.cells ≡ cells

  solved_matches : (z : Variable ℕ) (ts : Terms ℕ Hint) (h : Head ℕ) (us : Terms ℕ Hint) (names : List (Head ℕ)) → IsPattern z.type ts names → HasNoneOf ys (spine h us) → Matches (spine (variable z) ts) (put_in x cells ys z names (spine h us) (pruned x ys names (spine h us) (begun x cells ys z)))
  solved_matches z ts h us names p n =
      let left : (pruned x ys names (spine h us) (begun x cells ys z)).flexible ≡ without z ys = ap (λ c. c.flexible) (pruned_none ys x names (spine h us) (begun x cells ys z) n) in
      record {
        fewer = λ y e. without_held z ys y (subst (λ l. holds l y ≡ true) left e);
        gone = λ y e. alone y (subst (λ l. holds l y ≡ true) left e);
        same = ap (λ c. c.cells) (pruned_none ys x names (spine h us) (begun x cells ys z) n);
      }
    where
      alone : (y : Variable ℕ) → holds (without z ys) y ≡ true → holds (variables (spine (variable z) ts)) y ≡ false
      alone y e = no_both (z ∷ []) (variables_of_all ts) y
          (or_from (same_numbered z y) false (false_from_ne_true (same_numbered z y) (λ q. not_itself z ys (subst (λ v. holds (without z ys) v ≡ true) (sym ((same_numbered-Decides z y).0 q)) e))) refl)
          (ap (λ l. holds l y) (pattern_rigid p))

  mutual
    pub left_matches : {t u : Term ℕ Hint} {c : Change Hint} → Replaces x cells ys t u c → HasNoneOf ys t → Matches u c
    left_matches (is_solved {y = z} {ts = ts} held r p hp) n = absurd (no_head ys z ts n held)
    left_matches (is_narrowed {y = z} {ts = ts} held p q) n = absurd (no_head ys z ts n held)
    left_matches (is_put {y = z} {ts = ts} held hz p q) n = absurd (no_head ys z ts n held)
    left_matches (are_joined {y = z} {ts = ts} held hz p q) n = absurd (no_head ys z ts n held)
    left_matches (the_other_way k) n = right_matches k n

    right_matches : {t u : Term ℕ Hint} {c : Change Hint} → Replaces x cells ys t u c → HasNoneOf ys u → Matches t c
    right_matches (is_solved {y = z} {ts = ts} {h = h} {us = us} {names = names} held r p hp) n = solved_matches z ts h us names p n
    right_matches (is_narrowed {y = z} {us = us} held p q) n = absurd (no_head ys z us n held)
    right_matches (is_put {z = z} {us = us} hy held p q) n = absurd (no_head ys z us n held)
    right_matches (are_joined {z = z} {us = us} hy held p q) n = absurd (no_head ys z us n held)
    right_matches (the_other_way k) n = left_matches k n

module _ {Hint : Type 0} where
  -- a pattern without hints was one with them
  pattern_before : {A : Ty} (us : Terms ℕ Hint) {hs : List (Head ℕ)} → IsPattern A (forget_all us) hs → IsPattern A us hs
  pattern_before no_terms pattern_end = pattern_end
  pattern_before (term u us) (pattern_more n d p) = pattern_more (record { name = n.name; expansion = sym (forget_plain (forget u)) ∙ n.expansion }) d (pattern_before us p)

  none_four : (a b c d e f : Option (Result Hint)) → or_else a (or_else b (or_else c (or_else (or_else d e) f))) ≡ None → (a ≡ None) × (b ≡ None) × (c ≡ None) × (e ≡ None)
  none_four (Some r) b c d e f n = absurd (cc)
  none_four None (Some r) c d e f n = absurd (cc)
  none_four None None (Some r) d e f n = absurd (cc)
  none_four None None None (Some r) e f n = absurd (cc)
  none_four None None None None (Some r) f n = absurd (cc)
  none_four None None None None None f n = (refl, refl, refl, refl)

-- WHERE NO RULE APPLIES
module _ (sg : Signature) {Hint : Type 0} (x : Hint) (cells : List (Cell Hint)) (ys : List (Variable ℕ)) where
  none_applies_to : (e : Equation Hint) → rule x cells ys e ≡ None → (equal_sides e ≡ None) × (bodies e.place e.left e.right ≡ None) × (rigid_heads ys e.place e.left e.right ≡ None) × (pattern_and_rigid x cells ys e.right e.left ≡ None)
  none_applies_to e n = none_four (equal_sides e) (bodies e.place e.left e.right) (rigid_heads ys e.place e.left e.right) (pattern_and_rigid x cells ys e.left e.right) (pattern_and_rigid x cells ys e.right e.left)
      (or_else (one_variable x cells ys e.left e.right) (either_way x cells ys (two_variables x cells ys) e)) n

  -- the heads aren't both rigid
  not_rigid : (p : ℕ) (g h : Head ℕ) (ts us : Terms ℕ Hint) → is_flexible ys g ≡ false → is_flexible ys h ≡ false → rigid_heads ys p (spine g ts) (spine h us) ≡ None → ⊥
  not_rigid p g h ts us r q n =
      let result : Result Hint = cond (same_head g h) (parts (paired p ts us)) clash in
      let some : Some result ≡ None = sym (ap (λ b. cond b None (Some result)) (or_from (is_flexible ys g) (is_flexible ys h) r q)) ∙ n in
      cc

  -- a flexible side isn't a pattern
  not_pattern : (z : Variable ℕ) (us : Terms ℕ Hint) (g : Head ℕ) (ts : Terms ℕ Hint) (names : List (Head ℕ)) → HasNoneOf ys (spine g ts) → holds ys z ≡ true → pattern z.type us ≡ Some names → pattern_and_rigid x cells ys (spine (variable z) us) (spine g ts) ≡ None → ⊥
  not_pattern z us g ts names n h e q =
      let result : Result Hint = cond (occurs z (spine g ts) || not (no_foreign ys names (spine g ts))) clash (replaced (put_in x cells ys z names (spine g ts) (pruned x ys names (spine g ts) (begun x cells ys z)))) in
      let some : Some result ≡ None =
      sym (ap (λ b. cond b (Some result) None) (none_patterns ys (spine g ts) n))
      ∙ sym (ap (pattern_of x cells ys z (spine g ts)) e)
      ∙ sym (ap (λ b. cond b (pattern_of x cells ys z (spine g ts) (pattern z.type us)) None) (and_from (holds ys z) (not (is_flexible ys g)) h (ap not (rigid_head ys g ts n))))
      ∙ q in
      cc

  unread_head : (p : ℕ) (g h : Head ℕ) (ts us : Terms ℕ Hint) → HasNoneOf ys (spine g ts) → rigid_heads ys p (spine g ts) (spine h us) ≡ None → pattern_and_rigid x cells ys (spine h us) (spine g ts) ≡ None → can_read ys (forget (spine h us)) ≡ false
  unread_head p g (constant c) ts us n r q = absurd (not_rigid p g (constant c) ts us (rigid_head ys g ts n) refl r)
  unread_head p g (logical l) ts us n r q = absurd (not_rigid p g (logical l) ts us (rigid_head ys g ts n) refl r)
  unread_head p g (nominal a) ts us n r q = absurd (not_rigid p g (nominal a) ts us (rigid_head ys g ts n) refl r)
  unread_head p g (index i) ts us n r q = absurd (not_rigid p g (index i) ts us (rigid_head ys g ts n) refl r)
  unread_head p g (variable z) ts us n r q = go (holds ys z) refl
    where
      some : holds ys z ≡ true → (o : Option (List (Head ℕ))) → pattern z.type (forget_all us) ≡ o → is_some o ≡ false
      some h None e = refl
      some h (Some names) e = absurd (not_pattern z us g ts names n h (pattern_back (pattern_before us (is_pattern z.type (forget_all us) names e))) q)

      go : (b : Bool) → holds ys z ≡ b → can_read ys (forget (spine (variable z) us)) ≡ false
      go true h = ap (λ b. cond b (is_some (pattern z.type (forget_all us))) (can_read_one ys (forget_all us))) h ∙ some h (pattern z.type (forget_all us)) refl
      go false h = absurd (not_rigid p g (variable z) ts us (rigid_head ys g ts n) h r)

  unread_typed : {G : List Ty} {T : Ty} (p : ℕ) {t u : Term ℕ Hint} → HasType sg G t T → HasType sg G u T → HasNoneOf ys t → bodies p t u ≡ None → rigid_heads ys p t u ≡ None → pattern_and_rigid x cells ys u t ≡ None → can_read ys (forget u) ≡ false
  unread_typed p (typed_lam d) (typed_lam e) n b r q = absurd (cc)
  unread_typed p (typed_spine {h = g} {ts = ts} d ds) (typed_spine {h = h} {ts = us} e es) n b r q = unread_head p g h ts us n r q

  -- off a right side nothing is read
  pub unread_stuck : (e : Equation Hint) → IsTypedEquation sg e → HasNoneOf ys e.left → rule x cells ys e ≡ None → can_read ys (forget e.right) ≡ false
  unread_stuck e d n q = let r = none_applies_to e q in unread_typed e.place d.2 d.3 n r.1 r.2 r.3

  -- and the sides aren't the same
  pub stuck_different : (e : Equation Hint) → rule x cells ys e ≡ None → forget e.left ≡ forget e.right → ⊥
  stuck_different e q same =
      let some : Some (parts []) ≡ None = sym (ap (λ b. cond b (Some (parts [])) None) ((same_term-Decides e.left e.right).1 same)) ∙ (none_applies_to e q).0 in
      cc

module _ (sg : Signature) (others : List (Head ℕ)) (none : NoIndex others) {Hint : Type 0} (x : Hint) where
  -- what is flexible left out, nothing is put in
  none_put : (s : State Hint) (f : Put) → Going sg others none x s f → (t : Term ℕ (Unit {0})) → image_by (but s.flexible f) t ≡ t
  none_put s f g t = image_unmoved (but s.flexible f) t (λ y m. go y (holds s.flexible y) refl)
    where
      go : (y : Variable ℕ) (b : Bool) → holds s.flexible y ≡ b → cond b None (f y) ≡ None
      go y true h = refl
      go y false h = g.fits.none y h

  stuck_unread : (s : State Hint) (f : Put) → Going sg others none x s f → (es : List (Equation Hint)) → Every (IsTypedEquation sg) es → LeftsWithout s.flexible es → Every (λ d. rule x s.cells s.flexible d ≡ None) es → NoneRead s.flexible f es
  stuck_unread s f g [] t l n = tt
  stuck_unread s f g (e ∷ es) t l n = (ap (can_read s.flexible) (none_put s f g (forget e.right)) ∙ unread_stuck sg x s.cells s.flexible e t.0 l.0 n.0, stuck_unread s f g es t.1 l.1 n.1)

  -- what an answer says: no variable was made, and it isn't stuck
  abbrev pub Says : List (Cell Hint) → Answer Hint → Type 0
  Says cells (unified more q) = more ≡ cells
  Says cells apart = Unit {0}
  Says cells (stuck i) = ⊥

  not_stuck : (s : State Hint) (f : Put) → Going sg others none x s f → LeftsWithout s.flexible s.equations → ReadInTurn s.flexible f s.equations → (a : Answer Hint) → Ended x s a → Says s.cells a
  not_stuck s f g l turn a (all_solved e) = refl
  not_stuck s f g l turn a are_apart = tt
  not_stuck s f g l turn a (none_applies e es w n) =
      let matters = subst (NoneMatters s.flexible f) w (turn s.flexible (λ y h. h) (stuck_unread s f g s.equations g.typed l n)) in
      let alike = (subst (Every (λ d. Alike f d.left d.right)) w g.alike).0 in
      let left = (subst (LeftsWithout s.flexible) w l).0 in
      let same : forget e.left ≡ forget e.right = sym (image_still s.flexible f g.fits.none e.left left) ∙ alike ∙ sym matters.0 ∙ none_put s f g (forget e.right) in
      absurd (stuck_different sg x s.cells s.flexible e (subst (Every (λ d. rule x s.cells s.flexible d ≡ None)) w n).0 same)

  -- from a state on, whatever the guess
  abbrev Matches_on : State Hint → Answer Hint → Type 0
  Matches_on m a = (f : Put) → Going sg others none x m f → LeftsWithout m.flexible m.equations → ReadInTurn m.flexible f m.equations → Says m.cells a

  unread_known : (us ys : List (Variable ℕ)) (f : Put) → ((y : Variable ℕ) → holds ys y ≡ false → f y ≡ None) → (e : Equation Hint) → Within us ys → Alike f e.left e.right → HasNoneOf ys e.left → HasNoneOf us e.right → can_read us (image_by (but us f) (forget e.right)) ≡ false
  unread_known us ys f none e w a l r =
      ap (can_read us) (absent_alike us f e.right r ∙ sym a ∙ image_still ys f none e.left l)
      ∙ none_there us (forget e.left) (λ y h. forgotten_absent ys e.left l y (w y h))

  match_step : (s : State Hint) (f : Put) → Going sg others none x s f → LeftsWithout s.flexible s.equations → ReadInTurn s.flexible f s.equations → (m : State Hint) → Stepped x s m → (a : Answer Hint) → Matches_on m a → Says s.cells a
  match_step s f g l turn m (parted before e es behind q here_rule) a rest =
      let here = around sg others none x s f g before e behind q in
      let ys = s.flexible in
      let lefts = taken_out sg others none x (λ d. HasNoneOf ys d.left) s.equations before e behind q l in
      let gives = gives_of x s e (parts es) here_rule in
      rest f (parts_going sg others none x s f g before e es behind q here_rule)
      (in_between sg others none x (λ d. HasNoneOf ys d.left) before es behind lefts.1 (lefts_of_parts x s.cells ys ys gives lefts.0))
      (λ us v r.
      let U : Equation Hint → Type 0 = λ d. can_read us (image_by (but us f) (forget d.right)) ≡ false in
      let M : Equation Hint → Type 0 = λ d. image_by (but us f) (forget d.right) ≡ image_by f (forget d.right) in
      let parted_reads = every_split U (before ++ es) behind r in
      let front = every_split U before es parted_reads.0 in
      let whole = subst (NoneRead us f) (sym q) (every_both U before (e ∷ behind) front.0 (unread_whole sg x s.cells ys us f g.fits.none v here.typed.2 here.typed.3 lefts.0 gives front.1, parted_reads.1)) in
      let matters = taken_out sg others none x M s.equations before e behind q (turn us v whole) in
      in_between sg others none x M before es behind matters.1 (matterless_parts sg x s.cells ys us f g.fits.none v gives matters.0))
  match_step s f g l turn m (changed before e c behind q here_rule) a rest =
      let here = around sg others none x s f g before e behind q in
      let ys = s.flexible in
      let lefts = taken_out sg others none x (λ d. HasNoneOf ys d.left) s.equations before e behind q l in
      let k = replaces_of x s e c here_rule in
      let after = change_going sg others none x s f g before e c behind q here_rule in
      let typed = after.safe.typed in
      let fits = left_matches x s.cells ys k lefts.0 in
      subst (λ k. Says k a) fits.same (rest after.follows.next (after.going (composition same_number s.pairs c.pairs))
      (lefts_after sg x s f c.flexible g.known fits.fewer e.left e.right c k (λ y h. lefts.0 y (fits.fewer y h)) fits.gone (before ++ behind) (every_weaker (λ d. HasNoneOf ys d.left) (λ d. HasNoneOf c.flexible d.left) (λ d n y h. n y (fits.fewer y h)) (before ++ behind) lefts.1))
      (λ us v r.
      let U : Equation Hint → Type 0 = λ d. can_read us (image_by (but us f) (forget d.right)) ≡ false in
      let M : Equation Hint → Type 0 = λ d. image_by (but us f) (forget d.right) ≡ image_by f (forget d.right) in
      let within : Within us ys = λ y h. fits.fewer y (v y h) in
      let left : HasNoneOf us e.left = λ y h. lefts.0 y (within y h) in
      let right : HasNoneOf us e.right = λ y h. fits.gone y (v y h) in
      let reads = every_split U before behind (unread_before sg x s f us g.known within e.left e.right c k left right after.follows typed (before ++ behind) here.rest_typed here.rest_scoped r) in
      let whole = subst (NoneRead us f) (sym q) (every_both U before (e ∷ behind) reads.0 (unread_known us ys f g.fits.none e within here.alike lefts.0 right, reads.1)) in
      let matters = taken_out sg others none x M s.equations before e behind q (turn us within whole) in
      matterless_after sg x s f us g.known within e.left e.right c k left right after.follows typed (before ++ behind) here.rest_typed here.rest_scoped matters.1))

  -- ALONG THE STEPS
  pub matched : (s : State Hint) (f : Put) → Going sg others none x s f → LeftsWithout s.flexible s.equations → ReadInTurn s.flexible f s.equations → (a : Answer Hint) → Solves x s a → Says s.cells a
  matched s f g l turn a (at_end e) = not_stuck s f g l turn a (end_view x s a e)
  matched s f g l turn a (by_step {r = m} e p) = match_step s f g l turn m (step_view x s m e) a (λ f2 g2 l2 t2. matched m f2 g2 l2 t2 a p)
