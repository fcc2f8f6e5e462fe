-- Names that are taken off a body, and two guesses that differ only where a name doesn't stand.
use Rattle.std.proofs.Common.{◌≡◌, ℕ, zero, suc, ◌+◌, List, [], ◌∷◌, ◌++◌, map, length, Bool, true, false, ◌&&◌, not, Option, Some, None, refl, sym, ◌∙◌, ap, subst, arith}
use Rattle.std.specs.List.{list_any}
use Rattle.std.proofs.lemmas.Bool.{or_parts}
use Rattle.ab_term.specs.Types.{Ty, prop}
use Rattle.ab_term.specs.Terms.{constant, Term, spine, no_terms}
use Rattle.ab_term.specs.Typing.{Signature, HasType}
use Rattle.ab_term.specs.Substitution.{shift, substitute}
use Rattle.ab_term.proofs.Closed.{closed_typed, closed_reach}
use Rattle.ab_term.proofs.Contexts.{substitutes_commute}
use Rattle.ab_term.proofs.Preservation.{Insert, here, there, substitute_typed}
use Rattle.ab_term.proofs.Reaching.{shift-short, substitute_by-short}
use Rattle.ab_unifiers.specs.Replacements.{Cell}
use Rattle.ab_coverage.proofs.IndexedGoals.{both, for_some, open_goal, stands, lower}
use Rattle.ab_coverage.proofs.IndexedSpecClauses.{in_goals_only, put_or, context_of, and_also}
use Rattle.ab_coverage.proofs.IndexedInstances.{IsGuess}
use Rattle.ab_coverage.proofs.IndexedCovering.{IsTaken, taken_off}
use Rattle.ab_coverage.proofs.Opening.{open-shift}
use Rattle.ab_coverage.proofs.Lowered.{lowered, stands-shift}
use Rattle.ab_coverage.proofs.Filling.{closing, closed_with, dropped_with, Drops, drops, AllUnmoved, AllTyped, closed_with_typed, Near}
use Rattle.ab_coverage.proofs.Conjoined.{asked}
use Rattle.ab_coverage.proofs.Clausal.{Free}

module _ (sg : Signature) {Hint : Type 0} where
  unmoved : (u : Term ℕ Hint) {A : Ty} → HasType sg [] u A → (j : ℕ) → shift j u ≡ u
  unmoved u d j = let short = closed_reach sg d in shift-short u j (omega (arith, short))

  -- a substitution of a closed term goes into the body
  module _ (A : Ty) (u : Term ℕ Hint) (u_typed : HasType sg [] u A) (G : List Ty) where
    past_one : (Es : List Ty) (b : Cell Hint) (v : Option (Term ℕ Hint)) (bs : List (Cell Hint)) (ws : List (Option (Term ℕ Hint))) (X : Term ℕ Hint) → AllTyped sg prop (b ∷ bs) (v ∷ ws) → HasType sg (b.type ∷ (Es ++ A ∷ G)) X prop
        → substitute A u (length Es) (put_or closing b v X) ≡ put_or closing b v (substitute A u (suc (length Es)) X)
    past_one Es b None bs ws X d e = ap (λ w. for_some b.type b.hint (substitute A w (suc (length Es)) X)) (unmoved u u_typed zero)
    past_one Es b (Some w) bs ws X d e =
        let long : 0 + length Es ≡ length Es = omega arith in
        let commuted = substitutes_commute sg ℕ Hint [] Es G b.type A prop X w u (closed_typed sg (Es ++ G) u_typed) (closed_typed sg (Es ++ A ∷ G) d.0) e in
        let short = closed_reach sg d.0 in
        ap (λ n. substitute A u n (substitute b.type w zero X)) (sym long)
        ∙ commuted
        ∙ ap (λ z. substitute b.type z zero (substitute A (shift zero u) (suc (0 + length Es)) X)) (substitute_by-short w _ u (0 + length Es) (omega (arith, short)))
        ∙ ap (λ z. substitute b.type w zero (substitute A z (suc (0 + length Es)) X)) (unmoved u u_typed zero)
        ∙ ap (λ n. substitute b.type w zero (substitute A u (suc n) X)) long

    pub closed-substitute : (Es : List Ty) (bs : List (Cell Hint)) (vs : List (Option (Term ℕ Hint))) (M : Term ℕ Hint) → AllTyped sg prop bs vs → HasType sg (context_of bs (Es ++ A ∷ G)) M prop
        → substitute A u (length Es) (closed_with bs vs M) ≡ closed_with bs vs (substitute A u (length bs + length Es) M)
    closed-substitute Es [] [] M d e = ap (λ n. substitute A u n M) (let long : length Es ≡ 0 + length Es = omega arith in long)
    closed-substitute Es [] (v ∷ vs) M d e = absurd d
    closed-substitute Es (b ∷ bs) [] M d e = absurd d
    closed-substitute Es (b ∷ bs) (v ∷ vs) M d e =
        past_one Es b v bs vs (closed_with bs vs M) d (closed_with_typed sg {G = b.type ∷ (Es ++ A ∷ G)} bs vs M d.1 e)
        ∙ ap (put_or closing b v) (closed-substitute (b.type ∷ Es) bs vs M d.1 e ∙ ap (λ n. closed_with bs vs (substitute A u n M)) (let long : length bs + suc (length Es) ≡ suc (length bs) + length Es = omega arith in long))

  pub inserted_in : (A : Ty) (bs : List (Cell Hint)) (j : ℕ) (G H : List Ty) → Insert j A G H → Insert (length bs + j) A (context_of bs G) (context_of bs H)
  inserted_in A [] j G H p = subst (λ n. Insert n A G H) (let long : j ≡ 0 + j = omega arith in long) p
  inserted_in A (b ∷ bs) j G H p = subst (λ n. Insert n A (context_of bs (b.type ∷ G)) (context_of bs (b.type ∷ H))) (let long : length bs + suc j ≡ suc (length bs) + j = omega arith in long) (inserted_in A bs (suc j) (b.type ∷ G) (b.type ∷ H) (there p))

  -- a guess, and terms for some of the names that it leaves closed
  abbrev pub one_after : Option (Term ℕ Hint) → Option (Term ℕ Hint) → Option (Term ℕ Hint)
  one_after (Some u) k = Some u
  one_after None k = k

  abbrev pub after : List (Option (Term ℕ Hint)) → List (Option (Term ℕ Hint)) → List (Option (Term ℕ Hint))
  after (v ∷ vs) (k ∷ ks) = one_after v k ∷ after vs ks
  after _ _ = []

  -- the rows of a guess and of what is taken off, binder by binder
  pub data Rows : List Bool → List Bool → List (Cell Hint) → List (Option (Term ℕ Hint)) → List (Option (Term ℕ Hint)) → Type 0 where
    no_rows : Rows [] [] [] [] []
    closed_in_both : {ds es : List Bool} {b : Cell Hint} {bs : List (Cell Hint)} {vs ks : List (Option (Term ℕ Hint))} → Rows ds es bs vs ks → Rows (true ∷ ds) (true ∷ es) (b ∷ bs) (None ∷ vs) (None ∷ ks)
    closed_before : {ds es : List Bool} {b : Cell Hint} {bs : List (Cell Hint)} {vs ks : List (Option (Term ℕ Hint))} {u : Term ℕ Hint} → HasType sg [] u b.type → Rows ds es bs vs ks → Rows (true ∷ ds) (false ∷ es) (b ∷ bs) (Some u ∷ vs) (None ∷ ks)
    open_in_both : {ds es : List Bool} {b : Cell Hint} {bs : List (Cell Hint)} {vs ks : List (Option (Term ℕ Hint))} {u : Term ℕ Hint} → HasType sg [] u b.type → Rows ds es bs vs ks → Rows (false ∷ ds) (false ∷ es) (b ∷ bs) (Some u ∷ vs) (None ∷ ks)
    closed_after : {ds es : List Bool} {b : Cell Hint} {bs : List (Cell Hint)} {vs ks : List (Option (Term ℕ Hint))} {k : Term ℕ Hint} → HasType sg [] k b.type → Rows ds es bs vs ks → Rows (false ∷ ds) (true ∷ es) (b ∷ bs) (None ∷ vs) (Some k ∷ ks)

  pub rows : (ds es : List Bool) (bs : List (Cell Hint)) (vs ks : List (Option (Term ℕ Hint))) → IsGuess sg es bs vs → IsTaken sg ds es bs ks → Rows ds es bs vs ks
  rows [] [] [] [] [] g t = no_rows
  rows (true ∷ ds) (true ∷ es) (b ∷ bs) (None ∷ vs) (None ∷ ks) g t = closed_in_both (rows ds es bs vs ks g t)
  rows (true ∷ ds) (false ∷ es) (b ∷ bs) (Some u ∷ vs) (None ∷ ks) g t = closed_before g.0 (rows ds es bs vs ks g.1 t)
  rows (false ∷ ds) (false ∷ es) (b ∷ bs) (Some u ∷ vs) (None ∷ ks) g t = open_in_both g.0 (rows ds es bs vs ks g.1 t)
  rows (false ∷ ds) (true ∷ es) (b ∷ bs) (None ∷ vs) (Some k ∷ ks) g t = closed_after t.0 (rows ds es bs vs ks g t.1)
  rows ds (true ∷ es) (b ∷ bs) (Some u ∷ vs) ks g t = absurd g
  rows ds (true ∷ es) (b ∷ bs) [] ks g t = absurd g
  rows ds (false ∷ es) (b ∷ bs) (None ∷ vs) ks g t = absurd g
  rows ds (false ∷ es) (b ∷ bs) [] ks g t = absurd g
  rows [] [] [] (v ∷ vs) [] g t = absurd g
  rows ds es bs vs ks g t = absurd t

  -- the terms of the alternative's variables: of the guess, and those that are put in for what is taken off
  abbrev pub merged : List Bool → List (Option (Term ℕ Hint)) → List (Option (Term ℕ Hint)) → List (Option (Term ℕ Hint))
  merged (true ∷ ds) (v ∷ vs) (k ∷ ks) = None ∷ merged ds vs ks
  merged (false ∷ ds) (v ∷ vs) (k ∷ ks) = one_after v k ∷ merged ds vs ks
  merged _ _ _ = []

  pub merged_guess : {ds es : List Bool} {bs : List (Cell Hint)} {vs ks : List (Option (Term ℕ Hint))} → Rows ds es bs vs ks → IsGuess sg ds bs (merged ds vs ks)
  merged_guess no_rows = tt
  merged_guess (closed_in_both r) = merged_guess r
  merged_guess (closed_before d r) = merged_guess r
  merged_guess (open_in_both d r) = (d, merged_guess r)
  merged_guess (closed_after d r) = (d, merged_guess r)

  pub after_typed : {ds es : List Bool} {bs : List (Cell Hint)} {vs ks : List (Option (Term ℕ Hint))} → Rows ds es bs vs ks → AllTyped sg prop bs (after vs ks)
  after_typed no_rows = tt
  after_typed (closed_in_both r) = (refl, after_typed r)
  after_typed (closed_before d r) = (d, after_typed r)
  after_typed (open_in_both d r) = (d, after_typed r)
  after_typed (closed_after d r) = (d, after_typed r)

  rows_typed : {ds es : List Bool} {bs : List (Cell Hint)} {vs ks : List (Option (Term ℕ Hint))} → Rows ds es bs vs ks → AllTyped sg prop bs vs
  rows_typed no_rows = tt
  rows_typed (closed_in_both r) = (refl, rows_typed r)
  rows_typed (closed_before d r) = (d, rows_typed r)
  rows_typed (open_in_both d r) = (d, rows_typed r)
  rows_typed (closed_after d r) = (refl, rows_typed r)

  -- taking off, and putting in
  put_first : (es : List Bool) (b : Cell Hint) (bs : List (Cell Hint)) (vs ws ks : List (Option (Term ℕ Hint))) (u : Term ℕ Hint) → HasType sg [] u b.type → AllTyped sg prop bs vs → AllTyped sg prop bs ws → (G : List Ty) (M : Term ℕ Hint) → HasType sg (context_of bs (b.type ∷ G)) M prop
      → ((N : Term ℕ Hint) → HasType sg (context_of bs G) N prop → taken_off es ks (closed_with bs vs N) ≡ closed_with bs ws N)
      → taken_off es ks (substitute b.type u zero (closed_with bs vs M)) ≡ substitute b.type u zero (closed_with bs ws M)
  put_first es b bs vs ws ks u d v_typed w_typed G M e rest =
      ap (taken_off es ks) (closed-substitute b.type u d G [] bs vs M v_typed e)
      ∙ rest (substitute b.type u (length bs + 0) M) (substitute_typed sg (closed_typed sg (context_of bs G) d) (inserted_in b.type bs 0 G (b.type ∷ G) here) e)
      ∙ sym (closed-substitute b.type u d G [] bs ws M w_typed e)

  pub taken : {ds es : List Bool} {bs : List (Cell Hint)} {vs ks : List (Option (Term ℕ Hint))} → Rows ds es bs vs ks → (G : List Ty) (M : Term ℕ Hint) → HasType sg (context_of bs G) M prop
      → taken_off es ks (closed_with bs vs M) ≡ closed_with bs (after vs ks) M
  taken no_rows G M d = refl
  taken (closed_in_both {b = b} r) G M d = ap (for_some b.type b.hint) (taken r (b.type ∷ G) M d)
  taken (closed_after {b = b} {k = k} e r) G M d = ap (substitute b.type k zero) (taken r (b.type ∷ G) M d)
  taken (closed_before {es = es} {b = b} {bs = bs} {vs = vs} {ks = ks} {u = u} e r) G M d = put_first es b bs vs (after vs ks) ks u e (rows_typed r) (after_typed r) G M d (λ N n. taken r G N n)
  taken (open_in_both {es = es} {b = b} {bs = bs} {vs = vs} {ks = ks} {u = u} e r) G M d = put_first es b bs vs (after vs ks) ks u e (rows_typed r) (after_typed r) G M d (λ N n. taken r G N n)

  -- a name that the alternative closes and the instance doesn't stands nowhere
  abbrev pub Gone : List Bool → List Bool → List (Cell Hint) → Term ℕ Hint → Type 0
  Gone (true ∷ ds) (false ∷ es) (b ∷ bs) t = ((w : Term ℕ Hint) × (t ≡ shift (length bs) w)) × Gone ds es bs t
  Gone (d ∷ ds) (e ∷ es) (b ∷ bs) t = Gone ds es bs t
  Gone _ _ _ t = Unit {0}

  pub rows_near : {ds es : List Bool} {bs : List (Cell Hint)} {vs ks : List (Option (Term ℕ Hint))} → Rows ds es bs vs ks → (t : Term ℕ Hint) → Gone ds es bs t → Near t bs (merged ds vs ks) (after vs ks)
  rows_near no_rows t n = tt
  rows_near (closed_in_both r) t n = (tt, rows_near r t n)
  rows_near (closed_before d r) t n = (n.0, rows_near r t n.1)
  rows_near (open_in_both d r) t n = (refl, rows_near r t n)
  rows_near (closed_after d r) t n = (refl, rows_near r t n)

  -- something for each name
  abbrev pub whole : List (Option (Term ℕ Hint)) → List (Option (Term ℕ Hint)) → List (Option (Term ℕ Hint))
  whole (Some u ∷ vs) (k ∷ ks) = Some u ∷ whole vs ks
  whole (None ∷ vs) (Some k ∷ ks) = Some k ∷ whole vs ks
  whole (None ∷ vs) (None ∷ ks) = Some (spine (constant []) no_terms) ∷ whole vs ks
  whole _ _ = []

  whole_unmoved : {ds es : List Bool} {bs : List (Cell Hint)} {vs ks : List (Option (Term ℕ Hint))} → Rows ds es bs vs ks → AllUnmoved bs (whole vs ks)
  whole_unmoved no_rows = tt
  whole_unmoved (closed_in_both r) = ((λ j. refl), whole_unmoved r)
  whole_unmoved (closed_before {u = u} d r) = (unmoved u d, whole_unmoved r)
  whole_unmoved (open_in_both {u = u} d r) = (unmoved u d, whole_unmoved r)
  whole_unmoved (closed_after {k = k} d r) = (unmoved k d, whole_unmoved r)

  drops_guess : {ds es : List Bool} {bs : List (Cell Hint)} {vs ks : List (Option (Term ℕ Hint))} → Rows ds es bs vs ks → (t : Term ℕ Hint) → Free es bs t → Drops t bs vs (whole vs ks)
  drops_guess no_rows t f = tt
  drops_guess (closed_in_both r) t f = (f.0, drops_guess r t f.1)
  drops_guess (closed_before d r) t f = (refl, drops_guess r t f)
  drops_guess (open_in_both d r) t f = (refl, drops_guess r t f)
  drops_guess (closed_after d r) t f = (f.0, drops_guess r t f.1)

  drops_merged : {ds es : List Bool} {bs : List (Cell Hint)} {vs ks : List (Option (Term ℕ Hint))} → Rows ds es bs vs ks → (t : Term ℕ Hint) → Free ds bs t → Drops t bs (merged ds vs ks) (whole vs ks)
  drops_merged no_rows t f = tt
  drops_merged (closed_in_both r) t f = (f.0, drops_merged r t f.1)
  drops_merged (closed_before d r) t f = (f.0, drops_merged r t f.1)
  drops_merged (open_in_both d r) t f = (refl, drops_merged r t f)
  drops_merged (closed_after d r) t f = (refl, drops_merged r t f)

  -- the atom is the same
  pub rows_atoms : {ds es : List Bool} {bs : List (Cell Hint)} {vs ks : List (Option (Term ℕ Hint))} → Rows ds es bs vs ks → (t : Term ℕ Hint) → Free ds bs t → Free es bs t → dropped_with bs (merged ds vs ks) t ≡ dropped_with bs vs t
  rows_atoms {ds = ds} {bs = bs} {vs = vs} {ks = ks} r t f e =
      drops bs (merged ds vs ks) (whole vs ks) t (drops_merged r t f) (whole_unmoved r) ∙ sym (drops bs vs (whole vs ks) t (drops_guess r t e) (whole_unmoved r))

-- names that don't stand in the goals
module _ {Hint : Type 0} where
  more_shift : (k : ℕ) (L F : Term ℕ Hint) (Gs : List (Term ℕ Hint)) → and_also (shift k F) (map (open_goal (shift k L)) (map (shift k) Gs)) ≡ shift k (and_also F (map (open_goal L) Gs))
  more_shift k L F [] = refl
  more_shift k L F (G ∷ Gs) = ap (λ H. and_also (both (shift k F) H) (map (open_goal (shift k L)) (map (shift k) Gs))) (open-shift G L k) ∙ more_shift k L (both F (open_goal L G)) Gs

  asked-shift : (k : ℕ) (L : Term ℕ Hint) (Gs : List (Term ℕ Hint)) → asked (shift k L) (map (shift k) Gs) ≡ shift k (asked L Gs)
  asked-shift k L [] = refl
  asked-shift k L (G ∷ Gs) = ap (λ H. and_also H (map (open_goal (shift k L)) (map (shift k) Gs))) (open-shift G L k) ∙ more_shift k L (open_goal L G) Gs

  all_lowered : (k : ℕ) (Gs : List (Term ℕ Hint)) → list_any (stands k) Gs ≡ false → Gs ≡ map (shift k) (map (lower k) Gs)
  all_lowered k [] e = refl
  all_lowered k (G ∷ Gs) e =
      let parts = or_parts (stands k G) (list_any (stands k) Gs) e in
      ap (λ H. H ∷ Gs) (lowered k G parts.0) ∙ ap (λ l. shift k (lower k G) ∷ l) (all_lowered k Gs parts.1)

  pub asked_free : (k : ℕ) (L : Term ℕ Hint) (Gs : List (Term ℕ Hint)) → shift k L ≡ L → list_any (stands k) Gs ≡ false → (w : Term ℕ Hint) × (asked L Gs ≡ shift k w)
  asked_free k L Gs m e = (
    asked L (map (lower k) Gs),
    ap (asked L) (all_lowered k Gs e) ∙ ap (λ K. asked K (map (shift k) (map (lower k) Gs))) (sym m) ∙ asked-shift k L (map (lower k) Gs),
  )

and_false : (a b : Bool) → b ≡ false → (a && not b) ≡ false → a ≡ false
and_false true true e f = absurd (let bad : true ≡ false = e in cc)
and_false true false e f = absurd (let bad : true ≡ false = f in cc)
and_false false b e f = refl

module _ (sg : Signature) {Hint : Type 0} (L : Term ℕ Hint) (unmoved_list : (k : ℕ) → shift k L ≡ L) (Gs : List (Term ℕ Hint)) (A : Term ℕ Hint) where
  -- of the names of some binders, those that the first closes and the second doesn't
  pub gone : (ds : List Bool) (bs : List (Cell Hint)) → Free ds bs A → Gone sg ds (in_goals_only bs Gs A) bs (asked L Gs)
  gone [] [] f = tt
  gone [] (b ∷ bs) f = absurd f
  gone (true ∷ ds) [] f = absurd f
  gone (false ∷ ds) [] f = absurd f
  gone (true ∷ ds) (b ∷ bs) f = go (list_any (stands (length bs)) Gs && not (stands (length bs) A)) refl (gone ds bs f.1)
    where
      go : (e : Bool) → (list_any (stands (length bs)) Gs && not (stands (length bs) A)) ≡ e → Gone sg ds (in_goals_only bs Gs A) bs (asked L Gs) → Gone sg (true ∷ ds) (e ∷ in_goals_only bs Gs A) (b ∷ bs) (asked L Gs)
      go true e rest = rest
      go false e rest = (
        asked_free (length bs) L Gs (unmoved_list (length bs))
            (and_false (list_any (stands (length bs)) Gs) (stands (length bs) A) (ap (stands (length bs)) f.0.1 ∙ stands-shift (length bs) f.0.0) e),
        rest,
      )
  gone (false ∷ ds) (b ∷ bs) f = go (list_any (stands (length bs)) Gs && not (stands (length bs) A)) (gone ds bs f)
    where
      go : (e : Bool) → Gone sg ds (in_goals_only bs Gs A) bs (asked L Gs) → Gone sg (false ∷ ds) (e ∷ in_goals_only bs Gs A) (b ∷ bs) (asked L Gs)
      go true rest = rest
      go false rest = rest
