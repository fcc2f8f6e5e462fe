-- The cells of a row that count where they stand, once a cell is added or taken out; whether a cell is one of them, and which
-- of two comes first.
use Rattle.std.proofs.Common.{◌≡◌, inl, inr, ℕ, suc, ◌+◌, ◌<◌, ◌≤◌, List, [], ◌∷◌, ◌++◌, map, length, Bool, true, false, not, ◌==◌, ◌||◌, cond, Option, Some, None, is_some, get_or, take, refl, sym, ◌∙◌, ap, subst, arith, append-nil}
use Rattle.std.proofs.lemmas.List.{take_more, length-take}
use Rattle.std.specs.Cmp.{unsigned_Decides}
use Rattle.std.specs.List.{list_any}
use Rattle.std.proofs.lemmas.Bool.{false≢true, leb-true, le-leb, lt-leb}
use Rattle.ab_term.specs.Sameness.{same_numbered}
use Rattle.ab_norm.specs.ab_types.specs.Entries.{Table}
use Rattle.ab_norm.specs.ab_store.specs.declared.node.CellId.{CellId}
use Rattle.ab_norm.specs.ab_store.specs.Trees.{Contents}
use Rattle.ab_norm.specs.ab_store.specs.Reading.{cell_variable}
use Rattle.ab_unifiers.specs.Unification.{is_older}
use Rattle.ab_patterns.specs.Flexible.{same_cell, others_than, counts, is_earlier, listed_from, StandsAt, HavePlaces}
use Rattle.ab_patterns.proofs.Listed.{turned, one_test}

same_number : (c d : CellId) → (c.0 == d.0) ≡ true → c ≡ d
same_number c d e = ap (λ (n : ℕ). record { 0 = n }) ((unsigned_Decides c.0 d.0).0 e)

is_itself : (c : CellId) → same_cell c c ≡ true
is_itself c = (unsigned_Decides c.0 c.0).1 refl

-- places of a row

stands_below : (at : ℕ) (row : List CellId) (c : CellId) (place : ℕ) → StandsAt at row c place → (at ≤ place) × (place < at + length row)
stands_below at [] c place s = absurd s
stands_below at (d ∷ row) c place (inl here) = (omega (arith, here.1), omega (arith, here.1))
stands_below at (d ∷ row) c place (inr there) = let l = stands_below (suc at) row c place there in (omega (arith, l.0), omega (arith, l.1))

stands_still : (at : ℕ) (row : List CellId) (c : CellId) (place : ℕ) (d : CellId) → StandsAt at row c place → StandsAt at (row ++ d ∷ []) c place
stands_still at [] c place d s = absurd s
stands_still at (e ∷ row) c place d (inl here) = inl here
stands_still at (e ∷ row) c place d (inr there) = inr (stands_still (suc at) row c place d there)

stands_last : (at : ℕ) (row : List CellId) (d : CellId) → StandsAt at (row ++ d ∷ []) d (at + length row)
stands_last at [] d = inl (refl, omega arith)
stands_last at (e ∷ row) d = inr (subst (StandsAt (suc at) (row ++ d ∷ []) d) (let e : suc at + length row ≡ at + suc (length row) = omega arith in e) (stands_last (suc at) row d))

-- one cell more

grown : {X : Type 0} (b : Bool) (d : X) (xs ys : List X) → cond b (d ∷ xs ++ ys) (xs ++ ys) ≡ cond b (d ∷ xs) xs ++ ys
grown true d xs ys = refl
grown false d xs ys = refl

listed_push : (old new : CellId → Option ℕ) (at : ℕ) (row : List CellId) (c : CellId) → ((d : CellId) (i : ℕ) → i < at + length row → counts (new d) i ≡ counts (old d) i)
    → listed_from new at (row ++ c ∷ []) ≡ listed_from old at row ++ cond (counts (new c) (at + length row)) (c ∷ []) []
listed_push old new at [] c same = ap (λ n. cond (counts (new c) n) (c ∷ []) []) (let e : at ≡ at + 0 = omega arith in e)
listed_push old new at (d ∷ row) c same =
    let rest = listed_push old new (suc at) row c (λ e i l. same e i (omega (arith, l))) in
    let end : listed_from new (suc at) (row ++ c ∷ []) ≡ listed_from old (suc at) row ++ cond (counts (new c) (at + suc (length row))) (c ∷ []) [] =
    rest ∙ ap (λ n. listed_from old (suc at) row ++ cond (counts (new c) n) (c ∷ []) []) (let e : suc at + length row ≡ at + suc (length row) = omega arith in e) in
    ap (λ b. cond b (d ∷ listed_from new (suc at) (row ++ c ∷ [])) (listed_from new (suc at) (row ++ c ∷ []))) (same d at (omega arith))
    ∙ ap (λ l. cond (counts (old d) at) (d ∷ l) l) end
    ∙ grown (counts (old d) at) d (listed_from old (suc at) row) (cond (counts (new c) (at + suc (length row))) (c ∷ []) [])

pub listed_next : (places : CellId → Option ℕ) (row : List CellId) (i : ℕ) (d : CellId) → i < length row
    → listed_from places 0 (take (i + 1) row) ≡ listed_from places 0 (take i row) ++ cond (counts (places (get_or row i d)) i) (get_or row i d ∷ []) []
listed_next places row i d l =
    ap (listed_from places 0) (take_more row i d l)
    ∙ listed_push places places 0 (take i row) (get_or row i d) (λ e j k. refl)
    ∙ ap (λ n. listed_from places 0 (take i row) ++ cond (counts (places (get_or row i d)) n) (get_or row i d ∷ []) []) (let h = length-take i row in let e : 0 + length (take i row) ≡ i = omega (arith, h, l) in e)

counts_behind : (o : Option ℕ) (place at : ℕ) → o ≡ Some place → place ≤ at → counts o at ≡ true
counts_behind o place at e l = ap (λ p. counts p at) e ∙ le-leb place at l

counts_before : (o : Option ℕ) (place at : ℕ) → o ≡ Some place → at < place → counts o at ≡ false
counts_before o place at e l = ap (λ p. counts p at) e ∙ lt-leb place at l

pub places_still : (places : CellId → Option ℕ) (row : List CellId) (c : CellId) → HavePlaces places row → HavePlaces places (row ++ c ∷ [])
places_still places row c have q place e = stands_still 0 row q place c (have q place e)

pub none_if : (o : Option ℕ) → is_some o ≡ false → o ≡ None
none_if None e = refl
none_if (Some place) e = absurd (false≢true (sym e))

-- where the cell has a place already, and where it gets one
module _ (old : CellId → Option ℕ) (row : List CellId) (c : CellId) where
  pub listed_again : HavePlaces old row → is_some (old c) ≡ true → listed_from old 0 (row ++ c ∷ []) ≡ listed_from old 0 row ++ c ∷ []
  listed_again have e = listed_push old old 0 row c (λ d i l. refl) ∙ ap (λ b. listed_from old 0 row ++ cond b (c ∷ []) []) (go (old c) refl e)
    where
      go : (o : Option ℕ) → old c ≡ o → is_some o ≡ true → counts (old c) (0 + length row) ≡ true
      go None f g = absurd (false≢true g)
      go (Some place) f g = let low = stands_below 0 row c place (have c place f) in counts_behind (old c) place (0 + length row) f (omega (arith, low.1))

  pub listed_same : old c ≡ None → listed_from old 0 (row ++ c ∷ []) ≡ listed_from old 0 row
  listed_same e = listed_push old old 0 row c (λ d i l. refl) ∙ ap (λ o. listed_from old 0 row ++ cond (counts o (0 + length row)) (c ∷ []) []) e ∙ append-nil (listed_from old 0 row)

  module _ (new : CellId → Option ℕ) (last : ℕ) (is_last : last ≡ length row) (is : (q : CellId) → new q ≡ cond (same_cell c q) (Some last) (old q)) where
    pub places_more : HavePlaces old row → HavePlaces new (row ++ c ∷ [])
    places_more have q place e = go (same_cell c q) refl (sym (is q) ∙ e)
      where
        go : (b : Bool) → same_cell c q ≡ b → cond b (Some last) (old q) ≡ Some place → StandsAt 0 (row ++ c ∷ []) q place
        go true f g = subst (λ d. StandsAt 0 (row ++ c ∷ []) d place) (same_number c q f) (subst (StandsAt 0 (row ++ c ∷ []) c) (let h : last ≡ place = cc in omega (arith, is_last, h)) (stands_last 0 row c))
        go false f g = stands_still 0 row q place c (have q place g)

    pub listed_more : old c ≡ None → listed_from new 0 (row ++ c ∷ []) ≡ listed_from old 0 row ++ c ∷ []
    listed_more e = listed_push old new 0 row c others ∙ ap (λ b. listed_from old 0 row ++ cond b (c ∷ []) []) (counts_behind (new c) last (0 + length row) (is c ∙ ap (λ b. cond b (Some last) (old c)) (is_itself c)) (omega (arith, is_last)))
      where
        others : (d : CellId) (i : ℕ) → i < 0 + length row → counts (new d) i ≡ counts (old d) i
        others d i l = ap (λ o. counts o i) (is d) ∙ go (same_cell c d) refl
          where
            go : (b : Bool) → same_cell c d ≡ b → counts (cond b (Some last) (old d)) i ≡ counts (old d) i
            go true f = counts_before (Some last) last i refl (omega (arith, l, is_last)) ∙ sym (ap (λ o. counts o i) (ap old (sym (same_number c d f)) ∙ e))
            go false f = refl

-- one cell less

pub listed_without : (old new : CellId → Option ℕ) (c : CellId) → ((q : CellId) → new q ≡ cond (same_cell c q) None (old q)) → (at : ℕ) (row : List CellId) → listed_from new at row ≡ others_than c (listed_from old at row)
listed_without old new c is at [] = refl
listed_without old new c is at (d ∷ row) =
    go (d.0 == c.0) (counts (old d) at) refl refl (is d ∙ ap (λ b. cond b None (old d)) (turned c d)) (listed_without old new c is (suc at) row)
  where
    go : (b k : Bool) → (d.0 == c.0) ≡ b → counts (old d) at ≡ k → new d ≡ cond b None (old d) → listed_from new (suc at) row ≡ others_than c (listed_from old (suc at) row)
        → cond (counts (new d) at) (d ∷ listed_from new (suc at) row) (listed_from new (suc at) row) ≡ others_than c (cond k (d ∷ listed_from old (suc at) row) (listed_from old (suc at) row))
    go true true f g h e =
        ap (λ o. cond (counts o at) (d ∷ listed_from new (suc at) row) (listed_from new (suc at) row)) h
        ∙ e
        ∙ sym (ap (λ v. cond (not v) (d ∷ others_than c (listed_from old (suc at) row)) (others_than c (listed_from old (suc at) row))) f)
    go true false f g h e = ap (λ o. cond (counts o at) (d ∷ listed_from new (suc at) row) (listed_from new (suc at) row)) h ∙ e
    go false true f g h e =
        ap (λ o. cond (counts o at) (d ∷ listed_from new (suc at) row) (listed_from new (suc at) row)) h
        ∙ ap (λ v. cond v (d ∷ listed_from new (suc at) row) (listed_from new (suc at) row)) g
        ∙ ap (λ l. d ∷ l) e
        ∙ sym (ap (λ v. cond (not v) (d ∷ others_than c (listed_from old (suc at) row)) (others_than c (listed_from old (suc at) row))) f)
    go false false f g h e =
        ap (λ o. cond (counts o at) (d ∷ listed_from new (suc at) row) (listed_from new (suc at) row)) h
        ∙ ap (λ v. cond v (d ∷ listed_from new (suc at) row) (listed_from new (suc at) row)) g
        ∙ e

pub places_without : (old new : CellId → Option ℕ) (c : CellId) → ((q : CellId) → new q ≡ cond (same_cell c q) None (old q)) → (row : List CellId) → HavePlaces old row → HavePlaces new row
places_without old new c is row have q place e = go (same_cell c q) (sym (is q) ∙ e)
  where
    go : (b : Bool) → cond b None (old q) ≡ Some place → StandsAt 0 row q place
    go true f = absurd (cc)
    go false f = have q place f

-- look-up

either_way : {X : Type 0} (f : X → Bool) (b : Bool) (d : X) (xs : List X) → list_any f xs ≡ true → list_any f (cond b (d ∷ xs) xs) ≡ true
either_way f true d xs e = go (f d) e
  where
    go : (v : Bool) → list_any f xs ≡ true → (v || list_any f xs) ≡ true
    go true e = refl
    go false e = e
either_way f false d xs e = e

with_place : (places : CellId → Option ℕ) (c : CellId) (place : ℕ) → places c ≡ Some place → (at : ℕ) (row : List CellId) → StandsAt at row c place → list_any (same_cell c) (listed_from places at row) ≡ true
with_place places c place e at [] s = absurd s
with_place places c place e at (d ∷ row) (inl here) =
    ap (λ b. list_any (same_cell c) (cond b (d ∷ listed_from places (suc at) row) (listed_from places (suc at) row))) (counts_behind (places d) place at (ap places here.0 ∙ e) (omega (arith, here.1)))
    ∙ ap (λ b. b || list_any (same_cell c) (listed_from places (suc at) row)) (ap (same_cell c) here.0 ∙ is_itself c)
with_place places c place e at (d ∷ row) (inr there) = either_way (same_cell c) (counts (places d) at) d (listed_from places (suc at) row) (with_place places c place e (suc at) row there)

without_place : (places : CellId → Option ℕ) (c : CellId) → places c ≡ None → (at : ℕ) (row : List CellId) → list_any (same_cell c) (listed_from places at row) ≡ false
without_place places c e at [] = refl
without_place places c e at (d ∷ row) = go (counts (places d) at) refl (same_cell c d) refl (without_place places c e (suc at) row)
  where
    go : (k : Bool) → counts (places d) at ≡ k → (s : Bool) → same_cell c d ≡ s → list_any (same_cell c) (listed_from places (suc at) row) ≡ false → list_any (same_cell c) (cond k (d ∷ listed_from places (suc at) row) (listed_from places (suc at) row)) ≡ false
    go true f true g rest = absurd (false≢true (sym (ap (λ o. counts o at) (ap places (sym (same_number c d g)) ∙ e)) ∙ f))
    go true f false g rest = ap (λ b. b || list_any (same_cell c) (listed_from places (suc at) row)) g ∙ rest
    go false f s g rest = rest

pub found_listed : (places : CellId → Option ℕ) (row : List CellId) → HavePlaces places row → (c : CellId) → is_some (places c) ≡ list_any (same_cell c) (listed_from places 0 row)
found_listed places row have c = go (places c) refl
  where
    go : (o : Option ℕ) → places c ≡ o → is_some o ≡ list_any (same_cell c) (listed_from places 0 row)
    go None e = sym (without_place places c e 0 row)
    go (Some place) e = sym (with_place places c place e 0 row (have c place e))

-- which of two comes first

counted : (o : Option ℕ) (at : ℕ) → counts o at ≡ true → (place : ℕ) × (o ≡ Some place) × (place ≤ at)
counted None at e = absurd (false≢true e)
counted (Some place) at e = (place, refl, leb-true place at e)

behind : (at : ℕ) (d : CellId) (row : List CellId) (c : CellId) (place : ℕ) → same_cell c d ≡ false → StandsAt at (d ∷ row) c place → StandsAt (suc at) row c place
behind at d row c place e (inl here) = absurd (false≢true (sym e ∙ ap (same_cell c) here.0 ∙ is_itself c))
behind at d row c place e (inr there) = there

never : (o other : Option ℕ) → ((place : ℕ) → o ≡ Some place → ⊥) → is_earlier o other ≡ false
never None other n = refl
never (Some place) other n = absurd (n place refl)

first_here : (o other : Option ℕ) (at : ℕ) → o ≡ Some at → ((place : ℕ) → other ≡ Some place → at < place) → is_earlier o other ≡ true
first_here o None at e l = ap (λ p. is_earlier p None) e
first_here o (Some place) at e l = ap (λ p. is_earlier p (Some place)) e ∙ le-leb (suc at) place (l place refl)

other_here : (o other : Option ℕ) (at : ℕ) → other ≡ Some at → ((place : ℕ) → o ≡ Some place → at ≤ place) → is_earlier o other ≡ false
other_here None other at e l = refl
other_here (Some place) other at e l = ap (is_earlier (Some place)) e ∙ lt-leb (suc place) at (let k = l place refl in omega (arith, k))

module _ (types : Table) (store : Contents) (places : CellId → Option ℕ) where
  -- the cell stands at its place, if it has one
  abbrev StandsThere : ℕ → List CellId → CellId → Type 0
  StandsThere at row c = (place : ℕ) → places c ≡ Some place → StandsAt at row c place

  at_place : (at : ℕ) (d : CellId) (row : List CellId) (c : CellId) → counts (places d) at ≡ true → same_cell c d ≡ true → StandsThere at (d ∷ row) c → places c ≡ Some at
  at_place at d row c e s stands =
      let found = counted (places c) at (ap (λ q. counts (places q) at) (same_number c d s) ∙ e) in
      let low = stands_below at (d ∷ row) c found.0 (stands found.0 found.1) in
      let one : found.0 ≡ at = omega (arith, low.0, found.2) in
      found.1 ∙ ap Some one

  not_here : (at : ℕ) (d : CellId) (row : List CellId) (c : CellId) → counts (places d) at ≡ false → StandsThere at (d ∷ row) c → StandsThere (suc at) row c
  not_here at d row c e stands place has = go (stands place has)
    where
      go : StandsAt at (d ∷ row) c place → StandsAt (suc at) row c place
      go (inl here) = absurd (false≢true (sym e ∙ counts_behind (places d) place at (ap places here.0 ∙ has) (omega (arith, here.1))))
      go (inr there) = there

  later : (at : ℕ) (row : List CellId) (c : CellId) → StandsThere (suc at) row c → (place : ℕ) → places c ≡ Some place → at < place
  later at row c stands place has = let low = stands_below (suc at) row c place (stands place has) in omega (arith, low.0)

  pub older_listed : (at : ℕ) (row : List CellId) (first second : CellId) → StandsThere at row first → StandsThere at row second
      → is_earlier (places first) (places second) ≡ is_older (map (cell_variable types store) (listed_from places at row)) (cell_variable types store first) (cell_variable types store second)
  older_listed at [] first second one other = never (places first) (places second) one
  older_listed at (d ∷ row) first second one other = go (older_listed (suc at) row first second) (counts (places d) at) refl
    where
      heads : (a b : Bool) → same_cell first d ≡ a → same_cell second d ≡ b → (rest : Bool)
          → cond a (not b) (cond b false rest) ≡ cond (same_numbered (cell_variable types store d) (cell_variable types store first)) (not (same_numbered (cell_variable types store d) (cell_variable types store second))) (cond (same_numbered (cell_variable types store d) (cell_variable types store second)) false rest)
      heads a b f g rest =
          ap (λ x. cond x (not b) (cond b false rest)) (sym f ∙ one_test types store first d)
          ∙ ap (λ x. cond (same_numbered (cell_variable types store d) (cell_variable types store first)) (not x) (cond x false rest)) (sym g ∙ one_test types store second d)

      no_later : same_cell second d ≡ true → counts (places d) at ≡ true → is_earlier (places first) (places second) ≡ false
      no_later g e = other_here (places first) (places second) at (at_place at d row second e g other) (λ place has. (stands_below at (d ∷ row) first place (one place has)).0)

      tests : (StandsThere (suc at) row first → StandsThere (suc at) row second → is_earlier (places first) (places second) ≡ is_older (map (cell_variable types store) (listed_from places (suc at) row)) (cell_variable types store first) (cell_variable types store second))
          → (a b : Bool) → same_cell first d ≡ a → same_cell second d ≡ b → counts (places d) at ≡ true
          → is_earlier (places first) (places second) ≡ cond a (not b) (cond b false (is_older (map (cell_variable types store) (listed_from places (suc at) row)) (cell_variable types store first) (cell_variable types store second)))
      tests known true true f g e = no_later g e
      tests known true false f g e = first_here (places first) (places second) at (at_place at d row first e f one) (later at row second (λ place has. behind at d row second place g (other place has)))
      tests known false true f g e = no_later g e
      tests known false false f g e = known (λ place has. behind at d row first place f (one place has)) (λ place has. behind at d row second place g (other place has))

      go : (StandsThere (suc at) row first → StandsThere (suc at) row second → is_earlier (places first) (places second) ≡ is_older (map (cell_variable types store) (listed_from places (suc at) row)) (cell_variable types store first) (cell_variable types store second))
          → (k : Bool) → counts (places d) at ≡ k → is_earlier (places first) (places second) ≡ is_older (map (cell_variable types store) (cond k (d ∷ listed_from places (suc at) row) (listed_from places (suc at) row))) (cell_variable types store first) (cell_variable types store second)
      go known false e = known (not_here at d row first e one) (not_here at d row second e other)
      go known true e = tests known (same_cell first d) (same_cell second d) refl refl e ∙ heads (same_cell first d) (same_cell second d) refl refl (is_older (map (cell_variable types store) (listed_from places (suc at) row)) (cell_variable types store first) (cell_variable types store second))
