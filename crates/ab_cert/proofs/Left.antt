-- What is left to be read, at each place of a text: exactly what makes a certificate of the bytes in front.
use Rattle.std.proofs.Common.{◌≡◌, ◌≤◌, ◌<◌, ◌+◌, ◌^◌, ◌==◌, ℕ, suc, Bool, true, false, List, [], ◌∷◌, ◌++◌, length, take, drop, get_or, decimal, Option, Some, refl, sym, ap, ◌∙◌, subst, arith, append_assoc, inl, inr}
use Rattle.std.specs.Prelude.{if◌then◌else◌}
use Rattle.std.specs.List.{flat_map}
use Rattle.std.proofs.lemmas.List.{append-nil, append_cancel_right, append_cancel_left, drop_more, drop_all, take_all, take_more, take-append-drop}
use Rattle.std.proofs.lemmas.Bool.{and_parts, eq-eqb, cases_lt}
use Rattle.std.proofs.lemmas.Grind.{flat_map-append}
use Rattle.ab_cert.specs.declared.part.Part.{Part}
use Rattle.ab_cert.specs.Plain.{Item}
use Rattle.ab_cert.specs.Tables.{steps, signs}
use Rattle.ab_cert.specs.Pieces.{item_lines, first_line, last_line}
use Rattle.ab_cert.specs.Texts.{space, line_feed, line_text, text_of, IsText, GoesOn, IsFirstBad}
use Rattle.ab_cert.specs.Reading.{is_led}
use Rattle.ab_cert.specs.Grammar.{whole_rows, version_rows, item_rows, clause_rows, flag_rows, letter_rows, term_rows, head_rows, sign_rows, lead_of, IsLead, starts_line, end_of, part_text, Words, span, IsBlockedBy, IsScan}
use Rattle.ab_cert.specs.Splits.{is_plain}
use Rattle.ab_cert.proofs.Lines.{is_clean}
use Rattle.ab_cert.proofs.Clean.{name_clean, long_clean, step_wide}
use Rattle.ab_cert.proofs.Names.{meet, between, led_there, led_within}
use Rattle.ab_cert.proofs.Rows.{row_of, step_found}
use Rattle.ab_cert.proofs.Opening.{open_part, close_part}
use Rattle.ab_cert.proofs.Samples.{some_words}

-- the texts of certificates
abbrev pub CertWord : List ℕ → Type 0
CertWord word = (items : List Item) × IsText word items

pub record IsLeft (bytes : List ℕ) (at : ℕ) (pending : List Part) : Type 0 where
  pub within : at ≤ length bytes
  pub onto : (w : List ℕ) → Words pending w → CertWord (take at bytes ++ w)
  pub back : (w : List ℕ) → CertWord (take at bytes ++ w) → Words pending w

-- the whole

whole_text : (items : List Item) → text_of items ≡ part_text Part.Whole line_feed items
whole_text items = ap (λ q. line_text first_line ++ q) (flat_map-append line_text (flat_map item_lines items) (last_line ∷ []) ∙ ap (λ q. flat_map line_text (flat_map item_lines items) ++ q) (append-nil (line_text last_line)))

whole_cert : (w : List ℕ) → Words (Part.Whole ∷ []) w → CertWord w
whole_cert w m = (m.value, record { cert = m.meets; spelled = m.spelled ∙ (ap (λ q. part_text Part.Whole line_feed m.value ++ q) m.more ∙ (append-nil (part_text Part.Whole line_feed m.value) ∙ sym (whole_text m.value))) })

cert_whole : (w : List ℕ) → CertWord w → Words (Part.Whole ∷ []) w
cert_whole w h = record { value = h.0; meets = h.1.cert; rest = []; more = refl; spelled = h.1.spelled ∙ (whole_text h.0 ∙ sym (append-nil (part_text Part.Whole line_feed h.0))) }

pub left_whole : (bytes : List ℕ) → IsLeft bytes 0 (Part.Whole ∷ [])
left_whole bytes = record { within = omega arith; onto = whole_cert; back = cert_whole }

-- pieces are clean

wide_long : (n limit : ℕ) → n < limit → limit ≤ 10 ^ 64 → is_clean (decimal n) ≡ true
wide_long n limit h k = long_clean n (omega arith)

abbrev Clean : List ℕ → List Part → Type 0
Clean p kids = is_clean p ≡ true

step_clean : (p : List ℕ) (kids : List Part) → IsLead (lead_of Part.Step) p kids → is_clean p ≡ true
step_clean p kids h =
    let f = step_found 1 steps p kids h in
    let shift : f.at + 1 ≡ suc f.at = omega arith in
    ap is_clean (f.piece ∙ ap decimal shift) ∙ long_clean (suc f.at) (step_wide (suc f.at) f.forms f.known)

wide64 : 2 ^ 64 ≤ 10 ^ 64
wide64 = omega arith

wide30 : 10 ^ 30 ≤ 10 ^ 64
wide30 = omega arith

wide32 : 2 ^ 32 ≤ 10 ^ 64
wide32 = omega arith

pub lead_clean : (s : Part) (p : List ℕ) (kids : List Part) → IsLead (lead_of s) p kids → is_clean p ≡ true
lead_clean Part.Whole p kids h = row_of Clean whole_rows p kids (refl, tt) h
lead_clean Part.Version p kids h = row_of Clean version_rows p kids (refl, tt) h
lead_clean Part.Items p kids h = row_of Clean item_rows p kids (refl, (refl, (refl, (refl, (refl, (refl, tt)))))) h
lead_clean Part.Clauses p kids h = ap is_clean h.1.1.0 ∙ wide_long h.0 (2 ^ 64) h.1.0 wide64
lead_clean Part.Proof p kids h = ap is_clean h.1.1.0 ∙ wide_long h.0 (2 ^ 64) h.1.0 wide64
lead_clean Part.Step p kids h = step_clean p kids h
lead_clean Part.Clause p kids h = row_of Clean clause_rows p kids (refl, tt) h
lead_clean Part.Name p kids h = name_clean h.0
lead_clean Part.Label p kids (inl h) = ap is_clean h.0
lead_clean Part.Label p kids (inr h) = name_clean h.0
lead_clean Part.Flag p kids h = row_of Clean flag_rows p kids (refl, (refl, tt)) h
lead_clean Part.Letter p kids h = row_of Clean letter_rows p kids (refl, (refl, tt)) h
lead_clean Part.Place p kids h = ap is_clean h.1.1.0 ∙ wide_long h.0 (2 ^ 64) h.1.0 wide64
lead_clean Part.Long p kids h = ap is_clean h.1.1.0 ∙ wide_long h.0 (10 ^ 30) h.1.0 wide30
lead_clean Part.Small p kids h = ap is_clean h.1.1.0 ∙ wide_long h.0 (2 ^ 32) h.1.0 wide32
lead_clean Part.Type p kids (inl h) = ap is_clean h.0
lead_clean Part.Type p kids (inr h) = name_clean h.0
lead_clean Part.Term p kids h = row_of Clean term_rows p kids (refl, (refl, tt)) h
lead_clean Part.Head p kids h = row_of Clean head_rows p kids (refl, (refl, (refl, (refl, (refl, tt))))) h
lead_clean Part.Sign p kids h = row_of Clean (sign_rows signs) p kids (refl, (refl, (refl, (refl, (refl, (refl, (refl, (refl, (refl, (refl, (refl, (refl, (refl, (refl, (refl, (refl, (refl, (refl, tt)))))))))))))))))) h
lead_clean Part.Variable p kids h = name_clean h.0
lead_clean Part.Replace p kids h = ap is_clean h.1.1.0 ∙ wide_long h.0 (10 ^ 30) h.1.0 wide30
lead_clean Part.Args p kids h = ap is_clean h.1.1.0 ∙ wide_long h.0 (2 ^ 64) h.1.0 wide64
lead_clean Part.Names p kids h = ap is_clean h.1.1.0 ∙ wide_long h.0 (2 ^ 64) h.1.0 wide64
lead_clean Part.Labels p kids h = ap is_clean h.1.1.0 ∙ wide_long h.0 (2 ^ 64) h.1.0 wide64
lead_clean Part.Numbers p kids h = ap is_clean h.1.1.0 ∙ wide_long h.0 (2 ^ 64) h.1.0 wide64
lead_clean Part.Variables p kids h = ap is_clean h.1.1.0 ∙ wide_long h.0 (2 ^ 64) h.1.0 wide64
lead_clean Part.Replaces p kids h = ap is_clean h.1.1.0 ∙ wide_long h.0 (2 ^ 64) h.1.0 wide64

clean_front : (p q : List ℕ) → is_clean (p ++ q) ≡ true → is_clean p ≡ true
clean_front [] q h = refl
clean_front (b ∷ p) q h =
    let parts = and_parts (is_plain b) (is_clean (p ++ q)) h in
    rw (parts.0, clean_front p q parts.1) refl

clean_byte : (p : List ℕ) (b : ℕ) (q : List ℕ) → is_clean (p ++ b ∷ q) ≡ true → is_plain b ≡ true
clean_byte [] b q h = (and_parts (is_plain b) (is_clean q) h).0
clean_byte (c ∷ p) b q h = clean_byte p b q (and_parts (is_plain c) (is_clean (p ++ b ∷ q)) h).1

end_ends_by : (t : Bool) → is_plain (if t then line_feed else space) ≡ false
end_ends_by true = refl
end_ends_by false = refl

pub end_ends : (pending : List Part) → is_plain (end_of pending) ≡ false
end_ends [] = refl
end_ends (s ∷ pending) = end_ends_by (starts_line s)

true_false : (b : Bool) → b ≡ true → b ≡ false → ⊥
true_false true e f = cc
true_false false e f = cc

same_some : {A : Type 0} (a b : A) → Some a ≡ Some b → a ≡ b
same_some a b e = cc

-- ONE PIECE

module _ (bytes : List ℕ) (at to : ℕ) (s : Part) (pending : List Part) (kids : Option (List Part)) (left : IsLeft bytes at (s ∷ pending)) (scan : IsScan (lead_of s) bytes at to kids) where
  abbrev piece : List ℕ
  piece = span bytes at to

  parts : drop at bytes ≡ piece ++ drop to bytes
  parts = between bytes at to scan.onward

  taken : take to bytes ≡ take at bytes ++ piece
  taken = append_cancel_right (take to bytes) (take at bytes ++ piece) (drop to bytes)
      (take-append-drop to bytes ∙ (sym (take-append-drop at bytes) ∙ (ap (λ q. take at bytes ++ q) parts ∙ sym (append_assoc (take at bytes) piece (drop to bytes)))))

  piece_clean : is_clean piece ≡ true
  piece_clean = clean_front piece scan.rest (lead_clean s (piece ++ scan.rest) scan.after scan.front)

  not_inside : (p : List ℕ) (ks : List Part) (y : List ℕ) → piece ≡ p ++ end_of (ks ++ pending) ∷ y → ⊥
  not_inside p ks y e = true_false (is_plain (end_of (ks ++ pending))) (clean_byte p (end_of (ks ++ pending)) y (sym (ap is_clean e) ∙ piece_clean)) (end_ends (ks ++ pending))

  module _ (ks : List Part) (k : kids ≡ Some ks) (led : is_led (drop to bytes) (end_of (ks ++ pending)) ≡ true) where
    end_there : drop to bytes ≡ end_of (ks ++ pending) ∷ drop (to + 1) bytes
    end_there =
        let l = led_within bytes to (end_of (ks ++ pending)) led in
        let there = led_there (drop to bytes) (end_of (ks ++ pending)) led in
        let here = drop_more bytes to 0 l in
        let f : end_of (ks ++ pending) ∷ there.0 ≡ get_or bytes to 0 ∷ drop (to + 1) bytes = sym there.1 ∙ here in
        let same : there.0 ≡ drop (to + 1) bytes = cc in
        there.1 ∙ ap (λ q. end_of (ks ++ pending) ∷ q) same

    taken_more : (w : List ℕ) → take (to + 1) bytes ++ w ≡ take at bytes ++ (piece ++ end_of (ks ++ pending) ∷ w)
    taken_more w =
        let e = end_of (ks ++ pending) in
        let split : take (to + 1) bytes ≡ take to bytes ++ e ∷ [] = append_cancel_right (take (to + 1) bytes) (take to bytes ++ e ∷ []) (drop (to + 1) bytes)
        (take-append-drop (to + 1) bytes ∙ (sym (take-append-drop to bytes) ∙ (ap (λ q. take to bytes ++ q) end_there ∙ sym (append_assoc (take to bytes) (e ∷ []) (drop (to + 1) bytes))))) in
        ap (λ q. q ++ w) split ∙ (append_assoc (take to bytes) (e ∷ []) w ∙ (ap (λ q. q ++ e ∷ w) taken ∙ append_assoc (take at bytes) piece (e ∷ w)))

    back_on : (w : List ℕ) → Words (s ∷ pending) (piece ++ end_of (ks ++ pending) ∷ w) → Words (ks ++ pending) w
    back_on w m =
        let o = open_part s pending (piece ++ end_of (ks ++ pending) ∷ w) m in
        elim (meet o.piece piece (end_of (o.kids ++ pending)) (end_of (ks ++ pending)) o.rest w (sym o.spelled)) [
          | inl i ↦
              let kid : ks ≡ o.kids = same_some ks o.kids (sym k ∙ scan.whole o.kids (subst (λ q. IsLead (lead_of s) q o.kids) i.0 o.lead)) in
              let f : piece ++ (end_of (ks ++ pending) ∷ w) ≡ piece ++ (end_of (o.kids ++ pending) ∷ o.rest) = o.spelled ∙ ap (λ q. q ++ end_of (o.kids ++ pending) ∷ o.rest) i.0 in
              let g : end_of (ks ++ pending) ∷ w ≡ end_of (o.kids ++ pending) ∷ o.rest = append_cancel_left piece (end_of (ks ++ pending) ∷ w) (end_of (o.kids ++ pending) ∷ o.rest) f in
              let rest : o.rest ≡ w = cc in
              subst (λ q. Words (q ++ pending) w) (sym kid) (subst (λ q. Words (o.kids ++ pending) q) rest o.more)
          | inr r ↦ elim r [
            | inl i ↦ absurd (not_inside o.piece o.kids i.0 i.1)
            | inr i ↦ absurd (true_false (is_plain (end_of (ks ++ pending))) (clean_byte piece (end_of (ks ++ pending)) i.0 (sym (ap is_clean i.1) ∙ lead_clean s o.piece o.kids o.lead)) (end_ends (ks ++ pending)))
          ]
        ]

    pub left_next : IsLeft bytes (to + 1) (ks ++ pending)
    left_next =
        let l = led_within bytes to (end_of (ks ++ pending)) led in
        record {
          within = omega (arith, l);
          onto = λ w m. subst CertWord (sym (taken_more w)) (left.onto (piece ++ end_of (ks ++ pending) ∷ w) (close_part s pending piece ks (scan.known ks k) w m));
          back = λ w h. back_on w (left.back (piece ++ end_of (ks ++ pending) ∷ w) (subst CertWord (taken_more w) h));
        }

  module _ (stops : (ks : List Part) → kids ≡ Some ks → is_led (drop to bytes) (end_of (ks ++ pending)) ≡ false) where
    -- nothing is read by the next byte
    stop_by : (b : ℕ) (back : List ℕ) → drop to bytes ≡ b ∷ back → (w : List ℕ) → Words (s ∷ pending) (piece ++ b ∷ w) → ⊥
    stop_by b back e w m =
        let o = open_part s pending (piece ++ b ∷ w) m in
        elim (meet o.piece piece (end_of (o.kids ++ pending)) b o.rest w (sym o.spelled)) [
          | inl i ↦
              let f = stops o.kids (scan.whole o.kids (subst (λ q. IsLead (lead_of s) q o.kids) i.0 o.lead)) in
              true_false (b == end_of (o.kids ++ pending)) (eq-eqb b (end_of (o.kids ++ pending)) (sym i.1)) (sym (ap (λ q. is_led q (end_of (o.kids ++ pending))) e) ∙ f)
          | inr r ↦ elim r [
            | inl i ↦ not_inside o.piece o.kids i.0 i.1
            | inr i ↦ (subst (λ q. IsBlockedBy (lead_of s) piece q) e scan.blocked) i.0 o.kids (subst (λ q. IsLead (lead_of s) q o.kids) i.1 o.lead)
          ]
        ]

    -- nothing is read that ends here
    stop_end : Words (s ∷ pending) piece → ⊥
    stop_end m = let o = open_part s pending piece m in not_inside o.piece o.kids o.rest o.spelled

    goes_on : GoesOn (take to bytes)
    goes_on =
        let some = some_words (scan.after ++ pending) in
        let tail = end_of (scan.after ++ pending) ∷ some.0 in
        let cert = left.onto ((piece ++ scan.rest) ++ tail) (close_part s pending (piece ++ scan.rest) scan.after scan.front some.0 some.1) in
        let word : take at bytes ++ ((piece ++ scan.rest) ++ tail) ≡ take to bytes ++ (scan.rest ++ tail) =
        ap (λ q. take at bytes ++ q) (append_assoc piece scan.rest tail) ∙ (sym (append_assoc (take at bytes) piece (scan.rest ++ tail)) ∙ ap (λ q. q ++ (scan.rest ++ tail)) (sym taken)) in
        record { more = scan.rest ++ tail; items = cert.0; text = subst (λ q. IsText q cert.0) word cert.1 }

    none_behind : to < length bytes → ¬ GoesOn (take (to + 1) bytes)
    none_behind l g =
        let b = get_or bytes to 0 in
        let word : take (to + 1) bytes ++ g.more ≡ take at bytes ++ (piece ++ b ∷ g.more) =
        ap (λ q. q ++ g.more) (take_more bytes to 0 l) ∙ (append_assoc (take to bytes) (b ∷ []) g.more ∙ (ap (λ q. q ++ b ∷ g.more) taken ∙ append_assoc (take at bytes) piece (b ∷ g.more))) in
        stop_by b (drop (to + 1) bytes) (drop_more bytes to 0 l) g.more (left.back (piece ++ b ∷ g.more) (g.items, subst (λ q. IsText q g.items) word g.text))

    none_whole : (items : List Item) → ¬ IsText bytes items
    none_whole items h =
        let m : Words (s ∷ pending) (drop at bytes) = left.back (drop at bytes) (items, subst (λ q. IsText q items) (sym (take-append-drop at bytes)) h) in
        elim (cases_lt to (length bytes)) [
          | inl l ↦ stop_by (get_or bytes to 0) (drop (to + 1) bytes) (drop_more bytes to 0 l) (drop (to + 1) bytes) (subst (λ q. Words (s ∷ pending) q) (parts ∙ ap (λ q. piece ++ q) (drop_more bytes to 0 l)) m)
          | inr l ↦ stop_end (subst (λ q. Words (s ∷ pending) q) (parts ∙ (ap (λ q. piece ++ q) (drop_all to bytes l) ∙ append-nil piece)) m)
        ]

    pub left_stops : IsFirstBad bytes to
    left_stops = record { within = scan.within; before = goes_on; behind = none_behind; no_text = none_whole }

-- THE END

pub left_done : (bytes : List ℕ) (at : ℕ) → IsLeft bytes at [] → length bytes ≤ at → (items : List Item) × IsText bytes items
left_done bytes at left l =
    let h = left.onto [] refl in
    (h.0, subst (λ q. IsText q h.0) (append-nil (take at bytes) ∙ take_all at bytes l) h.1)

pub left_over : (bytes : List ℕ) (at : ℕ) → IsLeft bytes at [] → at < length bytes → IsFirstBad bytes at
left_over bytes at left l =
    let h = left.onto [] refl in
    record {
      within = left.within;
      before = record { more = []; items = h.0; text = h.1 };
      behind = λ m g.
          let word : take (at + 1) bytes ++ g.more ≡ take at bytes ++ (get_or bytes at 0 ∷ g.more) = ap (λ q. q ++ g.more) (take_more bytes at 0 l) ∙ append_assoc (take at bytes) (get_or bytes at 0 ∷ []) g.more in
          let f : get_or bytes at 0 ∷ g.more ≡ [] = left.back (get_or bytes at 0 ∷ g.more) (g.items, subst (λ q. IsText q g.items) word g.text) in
          cc;
      no_text = λ items k.
          let f : drop at bytes ≡ [] = left.back (drop at bytes) (items, subst (λ q. IsText q items) (sym (take-append-drop at bytes)) k) in
          let g : get_or bytes at 0 ∷ drop (at + 1) bytes ≡ [] = sym (drop_more bytes at 0 l) ∙ f in
          cc;
    }
