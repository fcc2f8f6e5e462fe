-- How far the first piece of a part goes.
use Rattle.std.proofs.Common.{◌≡◌, ◌≤◌, ◌<◌, ◌+◌, ◌-◌, ◌^◌, ◌⊎◌, ℕ, Bool, true, false, List, [], ◌∷◌, ◌++◌, length, take, drop, get_or, decimal, Option, Some, None, refl, sym, ap, ◌∙◌, subst, arith, append_assoc, inl, inr}
use Rattle.std.specs.Prelude.{bytes_eq, if◌then◌else◌}
use Rattle.std.proofs.lemmas.List.{append-nil, append_cancel_left, drop_more, drop_all, drop-drop, take_more, take-append-drop, get_or-drop, length-drop}
use Rattle.std.proofs.lemmas.Slice.Eq.{bytes_eq-Decides}
use Rattle.std.proofs.lemmas.Bool.{eq-eqb, cases_lt}
use Rattle.ab_cert.specs.declared.part.Part.{Part}
use Rattle.ab_cert.specs.declared.shape.Shape.{Shape}
use Rattle.ab_cert.specs.declared.shape.Shape.TheVariants.{Start}
use Rattle.ab_cert.specs.declared.count.Count.{Count}
use Rattle.ab_cert.specs.declared.count.Count.TheVariants.{Nothing, Value}
use Rattle.ab_cert.specs.Tables.{value_at, IsName}
use Rattle.ab_cert.specs.Reading.{is_led}
use Rattle.ab_cert.specs.Shapes.{ends_of, run, ends_at, IsBlocked, IsNameScan}
use Rattle.ab_cert.specs.Counts.{count_run, IsFull, IsCountScan}
use Rattle.ab_cert.specs.Grammar.{words, names, mark_or_name, numbers, IsLead, IsBlockedBy, span, IsScan, is_front, IsFarthest}
use Rattle.ab_cert.proofs.Shapes as shapes
use Rattle.ab_cert.proofs.Shapes.{completion, completes, name_runs, runs_name}
use Rattle.ab_cert.proofs.Counts as counts
use Rattle.ab_cert.proofs.Counts.{came_all, number_runs, runs_number}
use Rattle.ab_cert.proofs.Heads.{begins_name, no_name}
use Rattle.ab_cert.proofs.Names.{led_there}

true_false : (b : Bool) → b ≡ true → b ≡ false → ⊥
true_false true e f = cc
true_false false e f = cc

-- one byte more
pub span_more : (bytes : List ℕ) (start to : ℕ) → start ≤ to → to < length bytes → span bytes start (to + 1) ≡ span bytes start to ++ get_or bytes to 0 ∷ []
span_more bytes start to l m =
    let k : (to + 1) - start ≡ (to - start) + 1 = omega arith in
    let n : start + (to - start) ≡ to = omega arith in
    let inside : to - start < length (drop start bytes) = omega (arith, length-drop {A = ℕ} start bytes) in
    let byte : get_or (drop start bytes) (to - start) 0 ≡ get_or bytes to 0 = get_or-drop start bytes (to - start) 0 ∙ ap (λ j. get_or bytes j 0) n in
    ap (λ j. take j (drop start bytes)) k ∙ (take_more (drop start bytes) (to - start) 0 inside ∙ ap (λ b. take (to - start) (drop start bytes) ++ b ∷ []) byte)

-- a name

abbrev pub name_kids : List Part → Shape → Option (List Part)
name_kids after s = if ends_of s then Some after else None

name_known : (after : List Part) (b : Bool) (ks : List Part) → (if b then Some after else None) ≡ Some ks → (b ≡ true) × (ks ≡ after)
name_known after true ks e = let f : ks ≡ after = cc in (refl, f)
name_known after false ks e = cc

module _ (after : List Part) (bytes : List ℕ) (start to : ℕ) (s : Shape) (h : IsNameScan bytes start to s) where
  abbrev u : List ℕ
  u = span bytes start to

  name_blocked : (back : List ℕ) → IsBlocked s back → IsBlockedBy (names after) u back
  name_blocked [] k = tt
  name_blocked (b ∷ back) k = λ more kids n.
      let none : run (Some Start) (u ++ b ∷ more) ≡ None = shapes.run_more (Some Start) u (b ∷ more) ∙ (ap (λ o. run o (b ∷ more)) h.came ∙ (ap (λ o. run o more) k ∙ shapes.run_none more)) in
      let f : false ≡ true = sym (ap ends_at none) ∙ name_runs n.0 in
      cc

  pub name_scan : IsScan (names after) bytes start to (name_kids after s)
  name_scan =
      let ends : ends_at (run (Some Start) (u ++ completion s)) ≡ true = ap ends_at (shapes.run_more (Some Start) u (completion s) ∙ ap (λ o. run o (completion s)) h.came) ∙ completes s in
      record {
        onward = h.onward;
        within = h.within;
        rest = completion s;
        after = after;
        front = (runs_name (u ++ completion s) ends, refl);
        whole = λ ks n.
            let e : ends_of s ≡ true = sym (ap ends_at h.came) ∙ name_runs n.0 in
            ap (λ b. if b then Some after else None) e ∙ ap (λ q. Some q) (sym n.1);
        known = λ ks e.
            let k = name_known after (ends_of s) ks e in
            (runs_name u (ap ends_at h.came ∙ k.0), k.1);
        blocked = name_blocked (drop to bytes) h.blocked;
      }

-- a byte, or a name

marks_no_name : (b : ℕ) → (b ≡ 45) ⊎ (b ≡ 62) → (x : List ℕ) → IsName (b ∷ x) → ⊥
marks_no_name b (inl e) x n = no_name (b ∷ x) (b ∷ x) n (ap (λ c. begins_name (c ∷ x)) e) refl
marks_no_name b (inr e) x n = no_name (b ∷ x) (b ∷ x) n (ap (λ c. begins_name (c ∷ x)) e) refl

module _ (mark : ℕ) (after : List Part) (is : (mark ≡ 45) ⊎ (mark ≡ 62)) (bytes : List ℕ) (start : ℕ) where
  module _ (led : is_led (drop start bytes) mark ≡ true) where
    mark_span : span bytes start (start + 1) ≡ mark ∷ []
    mark_span =
        let there = led_there (drop start bytes) mark led in
        let k : (start + 1) - start ≡ 1 = omega arith in
        ap (λ j. take j (drop start bytes)) k ∙ ap (take 1) there.1

    mark_blocked : (p back : List ℕ) → p ≡ mark ∷ [] → IsBlockedBy (mark_or_name mark after) p back
    mark_blocked p [] e = tt
    mark_blocked p (b ∷ back) e = λ more kids h. elim h [
      | inl i ↦ let f : (mark ∷ []) ++ (b ∷ more) ≡ (mark ∷ []) ++ [] = ap (λ q. q ++ b ∷ more) (sym e) ∙ i.0 in let g : b ∷ more ≡ [] = append_cancel_left (mark ∷ []) (b ∷ more) [] f in cc
      | inr i ↦ marks_no_name mark is (b ∷ more) (subst (λ q. IsName (q ++ b ∷ more)) e i.0)
    ]

    pub mark_scan : start < length bytes → IsScan (mark_or_name mark after) bytes start (start + 1) (Some after)
    mark_scan l = record {
      onward = omega arith;
      within = omega (arith, l);
      rest = [];
      after = after;
      front = inl (append-nil (span bytes start (start + 1)) ∙ mark_span, refl);
      whole = λ ks h. elim h [
        | inl i ↦ ap (λ q. Some q) (sym i.1)
        | inr i ↦ absurd (marks_no_name mark is [] (subst IsName mark_span i.0))
      ];
      known = λ ks e. let f : ks ≡ after = cc in inl (mark_span, f);
      blocked = mark_blocked (span bytes start (start + 1)) (drop (start + 1) bytes) mark_span;
    }

  module _ (to : ℕ) (kids : Option (List Part)) (other : is_led (drop start bytes) mark ≡ false) (scan : IsScan (names []) bytes start to kids) where
    split : drop start bytes ≡ span bytes start to ++ drop to bytes
    split =
        let o = scan.onward in
        let n : start + (to - start) ≡ to = omega arith in
        sym (take-append-drop (to - start) (drop start bytes)) ∙ ap (λ q. take (to - start) (drop start bytes) ++ q) (drop-drop (to - start) start bytes ∙ ap (λ k. drop k bytes) n)

    not_led : (s : List ℕ) → is_led (drop start bytes) mark ≡ false → drop start bytes ≡ mark ∷ s → ⊥
    not_led s h e = true_false (is_led (drop start bytes) mark) (ap (λ q. is_led q mark) e ∙ eq-eqb mark mark refl) h

    other_blocked : (p back : List ℕ) → drop start bytes ≡ p ++ back → IsBlockedBy (names []) p back → IsBlockedBy (mark_or_name mark after) p back
    other_blocked p [] e k = tt
    other_blocked [] (b ∷ back) e k = λ more ks h. elim h [
      | inl i ↦ let f : b ≡ mark = cc in not_led back other (e ∙ ap (λ q. q ∷ back) f)
      | inr i ↦ k more ks i
    ]
    other_blocked (c ∷ p) (b ∷ back) e k = λ more ks h. elim h [
      | inl i ↦ let f : c ≡ mark = cc in not_led (p ++ b ∷ back) other (e ∙ ap (λ q. q ∷ (p ++ b ∷ back)) f)
      | inr i ↦ k more ks i
    ]

    pub other_scan : IsScan (mark_or_name mark after) bytes start to kids
    other_scan = record {
      onward = scan.onward;
      within = scan.within;
      rest = scan.rest;
      after = scan.after;
      front = inr scan.front;
      whole = λ ks h. elim h [
        | inl i ↦ absurd (not_led (drop to bytes) other (split ∙ ap (λ q. q ++ drop to bytes) i.0))
        | inr i ↦ scan.whole ks i
      ];
      known = λ ks e. inr (scan.known ks e);
      blocked = other_blocked (span bytes start to) (drop to bytes) split scan.blocked;
    }

-- a number

abbrev pub count_kids : (ℕ → List Part) → Count → Option (List Part)
count_kids after Nothing = None
count_kids after (Value n) = Some (after n)

module _ (limit : ℕ) (after : ℕ → List Part) (wide : limit ≤ 10 ^ 64) (some : 0 < limit) (bytes : List ℕ) (start to : ℕ) where
  abbrev v : List ℕ
  v = span bytes start to

  count_front : (s : Count) → count_run limit (Some Nothing) v ≡ Some s → (rest : List ℕ) × ((ks : List Part) × IsLead (numbers limit after) (v ++ rest) ks)
  count_front Nothing came =
      let e : v ≡ [] = came_all limit wide v [] Nothing Nothing refl came in
      (decimal 0, (after 0, (0, (some, (ap (λ q. q ++ decimal 0) e, refl)))))
  count_front (Value n) came =
      let e = runs_number limit wide v n came in
      ([], (after n, (n, (e.1, (append-nil v ∙ e.0, refl)))))

  count_whole : (s : Count) → count_run limit (Some Nothing) v ≡ Some s → (ks : List Part) → IsLead (numbers limit after) v ks → count_kids after s ≡ Some ks
  count_whole s came ks h =
      let through : Some s ≡ Some (Value h.0) = sym came ∙ (ap (count_run limit (Some Nothing)) h.1.1.0 ∙ number_runs limit h.0 h.1.0 (let b = h.1.0 in omega (arith, b, wide))) in
      let same : s ≡ Value h.0 = cc in
      ap (count_kids after) same ∙ ap (λ q. Some q) (sym h.1.1.1)

  count_known : (s : Count) → count_run limit (Some Nothing) v ≡ Some s → (ks : List Part) → count_kids after s ≡ Some ks → IsLead (numbers limit after) v ks
  count_known Nothing came ks e = cc
  count_known (Value n) came ks e =
      let r = runs_number limit wide v n came in
      let f : ks ≡ after n = cc in
      (n, (r.1, (r.0, f)))

  count_blocked : (s : Count) → count_run limit (Some Nothing) v ≡ Some s → (back : List ℕ) → IsFull limit s back → IsBlockedBy (numbers limit after) v back
  count_blocked s came [] full = tt
  count_blocked s came (b ∷ back) full = λ more ks h.
      let through = number_runs limit h.0 h.1.0 (let b = h.1.0 in omega (arith, b, wide)) in
      let none : count_run limit (Some Nothing) (decimal h.0) ≡ None = ap (count_run limit (Some Nothing)) (sym h.1.1.0) ∙ (counts.run_more limit (Some Nothing) v (b ∷ more) ∙ (ap (λ o. count_run limit o (b ∷ more)) came ∙ (ap (λ o. count_run limit o more) full ∙ counts.run_none limit more))) in
      let f : Some (Value h.0) ≡ None = sym through ∙ none in
      cc

  pub number_scan : (s : Count) → IsCountScan limit bytes start to s → IsScan (numbers limit after) bytes start to (count_kids after s)
  number_scan s h =
      let f = count_front s h.came in
      record {
        onward = h.onward;
        within = h.within;
        rest = f.0;
        after = f.1.0;
        front = f.1.1;
        whole = count_whole s h.came;
        known = count_known s h.came;
        blocked = count_blocked s h.came (drop to bytes) h.full;
      }

-- the words of a table

take_front : (p q : List ℕ) → take (length p) (p ++ q) ≡ p
take_front [] q = refl
take_front (b ∷ p) q = ap (λ x. b ∷ x) (take_front p q)

module _ {A : Type 0} where
  record FrontFound (rows : List (List ℕ × A)) (p : List ℕ) : Type 0 where
    pub rest : List ℕ
    pub value : A
    pub found : value_at rows (p ++ rest) ≡ Some value

  -- what a table lists for a word, is there for each word of it
  first_found : (r : List ℕ × A) (rs : List (List ℕ × A)) (w : List ℕ) → r.0 ≡ w → value_at (r ∷ rs) w ≡ Some r.1
  first_found r rs w e = ap (λ b. if b then Some r.1 else value_at rs w) ((bytes_eq-Decides r.0 w).1 e)

  later_found : (r : List ℕ × A) (rs : List (List ℕ × A)) (p : List ℕ) → FrontFound rs p → FrontFound (r ∷ rs) p
  later_found r rs p f = by_test (bytes_eq r.0 (p ++ f.rest)) refl
    where
      by_test : (b : Bool) → bytes_eq r.0 (p ++ f.rest) ≡ b → FrontFound (r ∷ rs) p
      by_test true e = record { rest = f.rest; value = r.1; found = ap (λ b. if b then Some r.1 else value_at rs (p ++ f.rest)) e }
      by_test false e = record { rest = f.rest; value = f.value; found = ap (λ b. if b then Some r.1 else value_at rs (p ++ f.rest)) e ∙ f.found }

  front_found : (rows : List (List ℕ × A)) (p : List ℕ) → is_front rows p ≡ true → FrontFound rows p
  front_found [] p h = cc
  front_found (r ∷ rs) p h = by_test (bytes_eq p (take (length p) r.0)) (bytes_eq-Decides p (take (length p) r.0)).0 h (front_found rs p)
    where
      by_test : (b : Bool) → (b ≡ true → p ≡ take (length p) r.0) → (if b then true else is_front rs p) ≡ true → (is_front rs p ≡ true → FrontFound rs p) → FrontFound (r ∷ rs) p
      by_test true d k on = record {
        rest = drop (length p) r.0;
        value = r.1;
        found = first_found r rs (p ++ drop (length p) r.0) (sym (take-append-drop (length p) r.0) ∙ ap (λ q. q ++ drop (length p) r.0) (sym (d refl)));
      }
      by_test false d k on = later_found r rs p (on k)

  found_front : (rows : List (List ℕ × A)) (p q : List ℕ) (a : A) → value_at rows (p ++ q) ≡ Some a → is_front rows p ≡ true
  found_front [] p q a h = cc
  found_front (r ∷ rs) p q a h = by_test (bytes_eq r.0 (p ++ q)) (bytes_eq-Decides r.0 (p ++ q)).0 h (found_front rs p q a)
    where
      or_true : (b t : Bool) → t ≡ true → (if b then true else t) ≡ true
      or_true true t e = refl
      or_true false t e = e

      by_test : (b : Bool) → (b ≡ true → r.0 ≡ p ++ q) → (if b then Some r.1 else value_at rs (p ++ q)) ≡ Some a → (value_at rs (p ++ q) ≡ Some a → is_front rs p ≡ true) → is_front (r ∷ rs) p ≡ true
      by_test true d k on = ap (λ b. if b then true else is_front rs p) ((bytes_eq-Decides p (take (length p) r.0)).1 (sym (ap (take (length p)) (d refl) ∙ take_front p q)))
      by_test false d k on = or_true (bytes_eq p (take (length p) r.0)) (is_front rs p) (on k)

module _ (rows : List (List ℕ × List Part)) (bytes : List ℕ) (start to : ℕ) (far : IsFarthest rows bytes start to) where
  abbrev x : List ℕ
  x = span bytes start to

  word_blocked_by : (back : List ℕ) → drop to bytes ≡ back → IsBlockedBy (words rows) x back
  word_blocked_by [] e = tt
  word_blocked_by (b ∷ back) e = λ more ks h.
      elim (cases_lt to (length bytes)) [
        | inl l ↦
            let f : get_or bytes to 0 ∷ drop (to + 1) bytes ≡ b ∷ back = sym (drop_more bytes to 0 l) ∙ e in
            let same : get_or bytes to 0 ≡ b = cc in
            let front : is_front rows (x ++ b ∷ []) ≡ true = found_front rows (x ++ b ∷ []) more ks (ap (value_at rows) (append_assoc x (b ∷ []) more) ∙ h) in
            let none : is_front rows (x ++ b ∷ []) ≡ false = sym (ap (is_front rows) (span_more bytes start to far.onward l ∙ ap (λ c. x ++ c ∷ []) same)) ∙ far.far l in
            true_false (is_front rows (x ++ b ∷ [])) front none
        | inr l ↦ let f : [] ≡ b ∷ back = sym (drop_all to bytes l) ∙ e in cc
      ]

  pub word_scan : IsScan (words rows) bytes start to (value_at rows (span bytes start to))
  word_scan =
      let f = front_found rows x far.came in
      record {
        onward = far.onward;
        within = far.within;
        rest = f.rest;
        after = f.value;
        front = f.found;
        whole = λ ks e. e;
        known = λ ks e. e;
        blocked = word_blocked_by (drop to bytes) refl;
      }
