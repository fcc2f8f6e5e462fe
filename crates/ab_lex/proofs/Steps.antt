-- The steps of a splitter, over its fields.
use Rattle.std.proofs.Common.{◌≡◌, ◌+◌, ◌-◌, ◌≤◌, ◌<◌, ℕ, Bool, true, false, List, [], ◌∷◌, ◌++◌, length, take, drop, Some, None, refl, sym, ap, ◌∙◌, subst, arith, append_assoc, slice_range}
use Rattle.std.proofs.lemmas.List.{append-nil, drop-drop, take-append-drop, length-take, length-drop, take_all, drop_all, take_rest}
use Rattle.ab_lex.specs.declared.scanner.Scan.{Scan}
use Rattle.ab_lex.specs.declared.scanner.Mode.TheVariants.{Plain}
use Rattle.ab_lex.specs.declared.TheConstants.{COMMAND_LIMIT}
use Rattle.ab_lex.specs.Scanner.{behind, run, fresh, depth, blank_from}
use Rattle.ab_lex.specs.Commands.{Item, command, long}
use Rattle.ab_lex.specs.SplitterFields.{IsReached, IsKept}
use Rattle.ab_lex.proofs.Found.{items_within, items_behind}
use Rattle.ab_lex.proofs.Items.{behind_on, run_append, items_whole, items_long, items_short, items_long_rest, long_ends, long_goes_on}
use Rattle.ab_lex.proofs.Blanks.{blank_on, blank_ends}
use Rattle.ab_lex.proofs.Openings.{reached_run, reached_fresh}

pub cut_at : (buffer : List ℕ) (start scanned : ℕ) → start ≤ scanned → take (scanned - start) (drop start buffer) ++ drop scanned buffer ≡ drop start buffer
cut_at buffer start scanned l =
    let e : start + (scanned - start) ≡ scanned = omega arith in
    let f : drop (scanned - start) (drop start buffer) ≡ drop scanned buffer = drop-drop (scanned - start) start buffer ∙ ap (λ n. drop n buffer) e in
    ap (λ q. take (scanned - start) (drop start buffer) ++ q) (sym f) ∙ take-append-drop (scanned - start) (drop start buffer)

-- the items of these bytes; or, where they are the end of a command that was told to be long, those behind its end
abbrev pub items_from : Bool → Scan → List ℕ → List Item
items_from false k s = items_within COMMAND_LIMIT s
items_from true k s = items_behind COMMAND_LIMIT (behind k.mode s)

abbrev pub rest_is_blank_from : Bool → Scan → List ℕ → Bool
rest_is_blank_from false k s = blank_from fresh s
rest_is_blank_from true k s = blank_from k s

-- what a scan says of the slice that it is given
pub of_slice : (v buffer : List ℕ) (scanned : ℕ) → v ≡ buffer → take (length v - scanned) (drop scanned v) ≡ drop scanned buffer
of_slice v buffer scanned e = take_rest v scanned ∙ ap (λ q. drop scanned q) e

-- the scan has come from `start` to `scanned`, in no long command
module _ (buffer : List ℕ) (start scanned : ℕ) (scan : Scan) (skips : Bool) (kept : IsKept buffer start scanned scan skips) (is_off : skips ≡ false) where
  -- it goes on to the end of a command
  ended : (n : ℕ) → behind scan.mode (drop scanned buffer) ≡ Some (drop n (drop scanned buffer)) → behind Plain (drop start buffer) ≡ Some (drop (scanned + n) buffer)
  ended n e =
      let a = cut_at buffer start scanned kept.in_order in
      let b = behind_on fresh (take (scanned - start) (drop start buffer)) (drop scanned buffer) (kept.no_end is_off) in
      let d = kept.scan_is is_off in
      ap (behind Plain) (sym a) ∙ (b ∙ (ap (λ k. behind k.mode (drop scanned buffer)) (sym d) ∙ (e ∙ ap (λ q. Some q) (drop-drop n scanned buffer))))

  -- or to the end of the buffer
  not_ended : behind scan.mode (drop scanned buffer) ≡ None → behind Plain (drop start buffer) ≡ None
  not_ended e =
      let a = cut_at buffer start scanned kept.in_order in
      let b = behind_on fresh (take (scanned - start) (drop start buffer)) (drop scanned buffer) (kept.no_end is_off) in
      let d = kept.scan_is is_off in
      ap (behind Plain) (sym a) ∙ (b ∙ (ap (λ k. behind k.mode (drop scanned buffer)) (sym d) ∙ e))

  scan_at_end : run scan (drop scanned buffer) ≡ run fresh (drop start buffer)
  scan_at_end =
      let a = cut_at buffer start scanned kept.in_order in
      let d = kept.scan_is is_off in
      ap (λ k. run k (drop scanned buffer)) d ∙ (sym (run_append fresh (take (scanned - start) (drop start buffer)) (drop scanned buffer)) ∙ ap (run fresh) a)

  blank_there : (more : List ℕ) → blank_from fresh (drop start buffer ++ more) ≡ blank_from scan (drop scanned buffer ++ more)
  blank_there more =
      let front = take (scanned - start) (drop start buffer) in
      let a = cut_at buffer start scanned kept.in_order in
      let d = kept.scan_is is_off in
      ap (λ q. blank_from fresh (q ++ more)) (sym a)
      ∙ (ap (blank_from fresh) (append_assoc front (drop scanned buffer) more)
      ∙ (blank_on fresh front (drop scanned buffer ++ more) (kept.no_end is_off)
      ∙ ap (λ k. blank_from k (drop scanned buffer ++ more)) (sym d)))

  whole_length : (end : ℕ) → end ≤ length buffer → length (slice_range buffer start end) ≡ end - start
  whole_length end l = simp (length-take, length-drop) (omega arith)

-- the fields of a splitter in a long command, and its value
module _ (buffer : List ℕ) (start scanned : ℕ) (scan : Scan) (skips : Bool) (kept : IsKept buffer start scanned scan skips) (is_on : skips ≡ true) where
  on_items : (more : List ℕ) → items_from skips scan (drop start buffer ++ more) ≡ items_behind COMMAND_LIMIT (behind scan.mode (drop scanned buffer ++ more))
  on_items more =
      ap (λ b. items_from b scan (drop start buffer ++ more)) is_on
      ∙ ap (λ n. items_behind COMMAND_LIMIT (behind scan.mode (drop n buffer ++ more))) (kept.nothing_kept is_on)

  on_blank : (more : List ℕ) → rest_is_blank_from skips scan (drop start buffer ++ more) ≡ blank_from scan (drop scanned buffer ++ more)
  on_blank more =
      ap (λ b. rest_is_blank_from b scan (drop start buffer ++ more)) is_on
      ∙ ap (λ n. blank_from scan (drop n buffer ++ more)) (kept.nothing_kept is_on)

  -- its end has come
  pub past_items : (n : ℕ) → behind scan.mode (drop scanned buffer) ≡ Some (drop n (drop scanned buffer)) → (more : List ℕ) → items_within COMMAND_LIMIT (drop (scanned + n) buffer ++ more) ≡ items_from skips scan (drop start buffer ++ more)
  past_items n e more =
      sym (on_items more ∙ (long_ends COMMAND_LIMIT scan (drop scanned buffer) (drop n (drop scanned buffer)) e more
      ∙ ap (λ q. items_within COMMAND_LIMIT (q ++ more)) (drop-drop n scanned buffer)))

  pub past_blank : (n : ℕ) → behind scan.mode (drop scanned buffer) ≡ Some (drop n (drop scanned buffer)) → (more : List ℕ) → blank_from fresh (drop (scanned + n) buffer ++ more) ≡ rest_is_blank_from skips scan (drop start buffer ++ more)
  past_blank n e more =
      sym (on_blank more ∙ (blank_ends scan (drop scanned buffer) (drop n (drop scanned buffer)) more e
      ∙ ap (λ q. blank_from fresh (q ++ more)) (drop-drop n scanned buffer)))

  -- or it goes on
  pub still_items : (end : ℕ) (scan' : Scan) → length buffer ≤ end → behind scan.mode (drop scanned buffer) ≡ None → scan' ≡ run scan (drop scanned buffer) → (more : List ℕ) → items_from skips scan' (drop end buffer ++ more) ≡ items_from skips scan (drop start buffer ++ more)
  still_items end scan' l e m more =
      ap (λ b. items_from b scan' (drop end buffer ++ more)) is_on
      ∙ (ap (λ q. items_behind COMMAND_LIMIT (behind scan'.mode (q ++ more))) (drop_all end buffer l)
      ∙ (ap (λ k. items_behind COMMAND_LIMIT (behind k.mode more)) m
      ∙ sym (on_items more ∙ long_goes_on COMMAND_LIMIT scan (drop scanned buffer) e more)))

  pub still_blank : (end : ℕ) (scan' : Scan) → length buffer ≤ end → behind scan.mode (drop scanned buffer) ≡ None → scan' ≡ run scan (drop scanned buffer) → (more : List ℕ) → rest_is_blank_from skips scan' (drop end buffer ++ more) ≡ rest_is_blank_from skips scan (drop start buffer ++ more)
  still_blank end scan' l e m more =
      ap (λ b. rest_is_blank_from b scan' (drop end buffer ++ more)) is_on
      ∙ (ap (λ q. blank_from scan' (q ++ more)) (drop_all end buffer l)
      ∙ (ap (λ k. blank_from k more) m
      ∙ sym (on_blank more ∙ blank_on scan (drop scanned buffer) more e)))

  pub still_none : (end : ℕ) (scan' : Scan) → length buffer ≤ end → items_from skips scan' (drop end buffer ++ []) ≡ []
  still_none end scan' l =
      ap (λ b. items_from b scan' (drop end buffer ++ [])) is_on
      ∙ ap (λ q. items_behind COMMAND_LIMIT (behind scan'.mode (q ++ []))) (drop_all end buffer l)

  pub kept_in_long : (end : ℕ) (scan' : Scan) → end ≡ length buffer → scan' ≡ run scan (drop scanned buffer) → depth scan'.mode ≤ depth scan.mode + length (drop scanned buffer) → IsKept buffer end end scan' skips
  kept_in_long end scan' is_end m deep =
      let n = kept.in_buffer in
      let s = kept.shallow in
      record {
        in_order = omega arith;
        in_buffer = omega arith;
        nothing_kept = λ _. refl;
        no_end = λ t. let x : true ≡ false = sym is_on ∙ t in cc;
        scan_is = λ t. let x : true ≡ false = sym is_on ∙ t in cc;
        reached = λ _. subst IsReached (sym m) (reached_run scan (drop scanned buffer) (kept.reached is_on));
        shallow = omega (arith, length-drop {A = ℕ});
      }

-- the fields of a splitter in no long command
module _ (buffer : List ℕ) (start scanned : ℕ) (scan : Scan) (skips : Bool) (kept : IsKept buffer start scanned scan skips) (off_here : skips ≡ false) where
  off_items : (more : List ℕ) → items_from skips scan (drop start buffer ++ more) ≡ items_within COMMAND_LIMIT (drop start buffer ++ more)
  off_items more =
      ap (λ b. items_from b scan (drop start buffer ++ more)) off_here

  off_blank : (more : List ℕ) → rest_is_blank_from skips scan (drop start buffer ++ more) ≡ blank_from scan (drop scanned buffer ++ more)
  off_blank more =
      ap (λ b. rest_is_blank_from b scan (drop start buffer ++ more)) off_here
      ∙ blank_there buffer start scanned scan skips kept off_here more

  off_then : (scan' : Scan) (s : List ℕ) → items_from skips scan' s ≡ items_within COMMAND_LIMIT s
  off_then scan' s = ap (λ b. items_from b scan' s) off_here

  front : (n : ℕ) → drop start buffer ≡ slice_range buffer start (scanned + n) ++ drop (scanned + n) buffer
  front n = let l = kept.in_order in sym (cut_at buffer start (scanned + n) (omega arith))

  pub whole_items : (n : ℕ) (scan' : Scan) → n ≤ length (drop scanned buffer) → behind scan.mode (drop scanned buffer) ≡ Some (drop n (drop scanned buffer)) → (scanned + n) - start ≤ COMMAND_LIMIT
      → (more : List ℕ) → items_from skips scan (drop start buffer ++ more) ≡ command (slice_range buffer start (scanned + n)) ∷ items_from skips scan' (drop (scanned + n) buffer ++ more)
  whole_items n scan' l e small more =
      let k = kept.in_buffer in
      let fits : scanned + n ≤ length buffer = omega (arith, length-drop {A = ℕ}) in
      let short : length (slice_range buffer start (scanned + n)) ≤ COMMAND_LIMIT = rw (whole_length buffer start scanned scan skips kept off_here (scanned + n) fits) small in
      off_items more
      ∙ (items_whole COMMAND_LIMIT (drop start buffer) (drop (scanned + n) buffer) (ended buffer start scanned scan skips kept off_here n e) (slice_range buffer start (scanned + n)) (front n) short more
      ∙ ap (λ q. command (slice_range buffer start (scanned + n)) ∷ q) (sym (off_then scan' (drop (scanned + n) buffer ++ more))))

  pub long_items : (n : ℕ) (scan' : Scan) → n ≤ length (drop scanned buffer) → behind scan.mode (drop scanned buffer) ≡ Some (drop n (drop scanned buffer)) → COMMAND_LIMIT < (scanned + n) - start
      → (more : List ℕ) → items_from skips scan (drop start buffer ++ more) ≡ long ∷ items_from skips scan' (drop (scanned + n) buffer ++ more)
  long_items n scan' l e big more =
      let k = kept.in_buffer in
      let fits : scanned + n ≤ length buffer = omega (arith, length-drop {A = ℕ}) in
      let much : COMMAND_LIMIT < length (slice_range buffer start (scanned + n)) = rw (whole_length buffer start scanned scan skips kept off_here (scanned + n) fits) big in
      off_items more
      ∙ (items_long COMMAND_LIMIT (drop start buffer) (drop (scanned + n) buffer) (ended buffer start scanned scan skips kept off_here n e) (slice_range buffer start (scanned + n)) (front n) much more
      ∙ ap (λ q. long ∷ q) (sym (off_then scan' (drop (scanned + n) buffer ++ more))))

  -- a command's end was found, whatever its length
  pub found_blank : (n : ℕ) (scan' : Scan) → behind scan.mode (drop scanned buffer) ≡ Some (drop n (drop scanned buffer)) → (more : List ℕ) → rest_is_blank_from skips scan' (drop (scanned + n) buffer ++ more) ≡ rest_is_blank_from skips scan (drop start buffer ++ more)
  found_blank n scan' e more =
      ap (λ b. rest_is_blank_from b scan' (drop (scanned + n) buffer ++ more)) off_here
      ∙ sym (off_blank more ∙ (blank_ends scan (drop scanned buffer) (drop n (drop scanned buffer)) more e
      ∙ ap (λ q. blank_from fresh (q ++ more)) (drop-drop n scanned buffer)))

  pub rest_items : (end : ℕ) (scan' : Scan) → end ≡ length buffer → behind scan.mode (drop scanned buffer) ≡ None → scan' ≡ run scan (drop scanned buffer) → COMMAND_LIMIT ≤ end - start
      → (more : List ℕ) → items_from skips scan (drop start buffer ++ more) ≡ long ∷ items_behind COMMAND_LIMIT (behind scan'.mode (drop end buffer ++ more))
  rest_items end scan' is_end e m big more =
      let much : COMMAND_LIMIT ≤ length (drop start buffer) = omega (arith, length-drop {A = ℕ}) in
      off_items more
      ∙ (items_long_rest COMMAND_LIMIT (drop start buffer) (not_ended buffer start scanned scan skips kept off_here e) much more
      ∙ (ap (λ k. long ∷ items_behind COMMAND_LIMIT (behind k.mode more)) (sym (m ∙ scan_at_end buffer start scanned scan skips kept off_here))
      ∙ ap (λ q. long ∷ items_behind COMMAND_LIMIT (behind scan'.mode (q ++ more))) (sym (drop_all end buffer (omega arith)))))

  pub rest_blank : (end : ℕ) (scan' : Scan) → end ≡ length buffer → behind scan.mode (drop scanned buffer) ≡ None → scan' ≡ run scan (drop scanned buffer) → (more : List ℕ) → blank_from scan' (drop end buffer ++ more) ≡ rest_is_blank_from skips scan (drop start buffer ++ more)
  rest_blank end scan' is_end e m more =
      ap (λ q. blank_from scan' (q ++ more)) (drop_all end buffer (omega arith))
      ∙ (ap (λ k. blank_from k more) m
      ∙ sym (off_blank more ∙ blank_on scan (drop scanned buffer) more e))

  pub more_none : (end : ℕ) → end ≡ length buffer → behind scan.mode (drop scanned buffer) ≡ None → end - start < COMMAND_LIMIT → items_from skips scan (drop start buffer ++ []) ≡ []
  more_none end is_end e small =
      let less : length (drop start buffer) < COMMAND_LIMIT = omega (arith, length-drop {A = ℕ}) in
      off_items [] ∙ (ap (items_within COMMAND_LIMIT) (append-nil (drop start buffer)) ∙ items_short COMMAND_LIMIT (drop start buffer) (not_ended buffer start scanned scan skips kept off_here e) less)

  pub more_items : (scan' : Scan) (more : List ℕ) → items_from skips scan' (drop start buffer ++ more) ≡ items_from skips scan (drop start buffer ++ more)
  more_items scan' more = off_then scan' (drop start buffer ++ more) ∙ sym (off_items more)

  -- the scan has come to the end of the buffer
  pub kept_at_end : (end : ℕ) (scan' : Scan) → end ≡ length buffer → behind scan.mode (drop scanned buffer) ≡ None → scan' ≡ run scan (drop scanned buffer) → depth scan'.mode ≤ depth scan.mode + length (drop scanned buffer) → IsKept buffer start end scan' skips
  kept_at_end end scan' is_end e m deep =
      let l = kept.in_order in
      let n = kept.in_buffer in
      let s = kept.shallow in
      let all : take (end - start) (drop start buffer) ≡ drop start buffer = take_all (end - start) (drop start buffer) (omega (arith, length-drop {A = ℕ})) in
      record {
        in_order = omega arith;
        in_buffer = omega arith;
        nothing_kept = λ t. let x : false ≡ true = sym off_here ∙ t in cc;
        no_end = λ _. rw all (not_ended buffer start scanned scan skips kept off_here e);
        scan_is = λ _. rw all (m ∙ scan_at_end buffer start scanned scan skips kept off_here);
        reached = λ t. let x : false ≡ true = sym off_here ∙ t in cc;
        shallow = omega (arith, length-drop {A = ℕ});
      }

  -- and what came is the beginning of a long command
  pub kept_long : (end : ℕ) (scan' : Scan) → end ≡ length buffer → scan' ≡ run scan (drop scanned buffer) → depth scan'.mode ≤ depth scan.mode + length (drop scanned buffer) → IsKept buffer end end scan' true
  kept_long end scan' is_end m deep =
      let n = kept.in_buffer in
      let s = kept.shallow in
      record {
        in_order = omega arith;
        in_buffer = omega arith;
        nothing_kept = λ _. refl;
        no_end = λ t. cc;
        scan_is = λ t. cc;
        reached = λ _. subst IsReached (sym (m ∙ scan_at_end buffer start scanned scan skips kept off_here)) (reached_fresh (drop start buffer));
        shallow = omega (arith, length-drop {A = ℕ});
      }

  pub no_reach : (scan' : Scan) → skips ≡ true → IsReached scan'
  no_reach scan' t = let x : false ≡ true = sym off_here ∙ t in cc

-- at any time, what was not scanned yet decides
pub blank_now : (buffer : List ℕ) (start scanned : ℕ) (scan : Scan) (skips : Bool) → IsKept buffer start scanned scan skips → (b : Bool) → skips ≡ b → rest_is_blank_from skips scan (drop start buffer ++ []) ≡ blank_from scan (drop scanned buffer)
blank_now buffer start scanned scan skips kept true e = on_blank buffer start scanned scan skips kept e [] ∙ ap (blank_from scan) (append-nil (drop scanned buffer))
blank_now buffer start scanned scan skips kept false e = off_blank buffer start scanned scan skips kept e [] ∙ ap (blank_from scan) (append-nil (drop scanned buffer))
