-- What a splitter keeps when given bytes are dropped and a piece comes.
use Rattle.std.proofs.Common.{◌≡◌, ◌+◌, ◌-◌, ◌^◌, ◌≤◌, ◌<◌, ℕ, Bool, List, ◌++◌, length, take, drop, ap, ◌∙◌, arith}
use Rattle.std.proofs.lemmas.List.{length-drop, length-append, drop-drop, drop-append-le, take-append-le}
use Rattle.ab_lex.specs.declared.scanner.Scan.{Scan}
use Rattle.ab_lex.specs.Scanner.{depth}
use Rattle.ab_lex.specs.SplitterFields.{IsKept}

module _ (buffer : List ℕ) (start dropped : ℕ) (piece : List ℕ) (given : dropped ≤ start) (fits : start ≤ length buffer) where
  -- the bytes to come are those from before, and then the piece
  pub bytes_to_come : drop (start - dropped) (drop dropped buffer ++ piece) ≡ drop start buffer ++ piece
  bytes_to_come =
      let l : start - dropped ≤ length (drop dropped buffer) = omega (arith, length-drop {A = ℕ}) in
      let e : dropped + (start - dropped) ≡ start = omega arith in
      drop-append-le (start - dropped) (drop dropped buffer) piece l
      ∙ ap (λ q. q ++ piece) (drop-drop (start - dropped) dropped buffer ∙ ap (λ n. drop n buffer) e)

pub kept_fed : (buffer : List ℕ) (start scanned dropped : ℕ) (scan : Scan) (skips : Bool) (piece : List ℕ) → dropped ≤ start → IsKept buffer start scanned scan skips
    → depth scan.mode + (length buffer - scanned) + length piece < 2 ^ 64 → IsKept (drop dropped buffer ++ piece) (start - dropped) (scanned - dropped) scan skips
kept_fed buffer start scanned dropped scan skips piece given kept few =
    let l = kept.in_order in
    let n = kept.in_buffer in
    let fits : start ≤ length buffer = omega arith in
    let gap : (scanned - dropped) - (start - dropped) ≡ scanned - start = omega arith in
    let within : scanned - start ≤ length (drop start buffer) = omega (arith, length-drop {A = ℕ}) in
    let e : take ((scanned - dropped) - (start - dropped)) (drop (start - dropped) (drop dropped buffer ++ piece)) ≡ take (scanned - start) (drop start buffer) =
    ap (λ k. take k (drop (start - dropped) (drop dropped buffer ++ piece))) gap
    ∙ (ap (take (scanned - start)) (bytes_to_come buffer start dropped piece given fits)
    ∙ take-append-le (scanned - start) (drop start buffer) piece within) in
    record {
      in_order = omega arith;
      in_buffer = omega (arith, length-append {A = ℕ}, length-drop {A = ℕ});
      nothing_kept = λ t. let z = kept.nothing_kept t in omega arith;
      no_end = λ t. rw e (kept.no_end t);
      scan_is = λ t. rw e (kept.scan_is t);
      reached = kept.reached;
      shallow = omega (arith, length-append {A = ℕ}, length-drop {A = ℕ});
    }
