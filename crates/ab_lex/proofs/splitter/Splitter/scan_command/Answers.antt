use Rattle.std.proofs.Common.{◌≡◌, ◌≤◌, ◌+◌, [], List, ℕ, true, false, length, drop, Some, None, refl, ap, ◌∙◌, arith, subst, length-drop, slice_range}
use Rattle.ab_lex.specs.Scanner.{behind, run, depth}
use Rattle.ab_lex.specs.Commands.{command, long}
use Rattle.ab_lex.specs.PendingText.{Pending}
use Rattle.ab_lex.specs.SplitterFields.{view_of}
use Rattle.ab_lex.proofs.Steps.{of_slice, whole_items, long_items, found_blank, rest_items, rest_blank, more_none, more_items, kept_at_end, kept_long, no_reach}
use Rattle.ab_lex.proofs.Awaiting.{same_here, next_here, rest_here, none_here}
use Rattle.ab_lex.proofs.splitter.Splitter.scan_command.Goals as goal
use Rattle.ab_lex.proofs.splitter.Splitter.scan_command.Goals.{then-span-le-COMMAND_LIMIT, else-span-le-COMMAND_LIMIT}

pub invariant_of-self-then-self-ge-COMMAND_LIMIT : goal.invariant_of-self-then-self-ge-COMMAND_LIMIT
invariant_of-self-then-self-ge-COMMAND_LIMIT c =
    let s = c.self.inside in
    let e = of_slice c.deref.result.now s.buffer.items s.scanned c.deref.ensures.value in
    let off : s.skips ≡ false = ap (λ (q : Pending). q.in_long) c.self.view_is ∙ c.requires in
    let m = subst (λ (q : List ℕ). c.command_end-found.new.scan ≡ run s.scan q) e c.in-None.ensures.found.1 in
    let d = subst (λ (q : List ℕ). depth c.command_end-found.new.scan.mode ≤ depth s.scan.mode + length q) e c.in-None.ensures.depth in
    let l : c.len-self-inside.result ≡ length s.buffer.items = omega (arith, c.len-self-inside.ensures, s.buffer.ok.0) in
    kept_long s.buffer.items s.start s.scanned s.scan s.skips c.self.invariant off c.len-self-inside.result c.command_end-found.new.scan l m d

pub invariant_of-self-else-self-ge-COMMAND_LIMIT : goal.invariant_of-self-else-self-ge-COMMAND_LIMIT
invariant_of-self-else-self-ge-COMMAND_LIMIT c =
    let s = c.self.inside in
    let e = of_slice c.deref.result.now s.buffer.items s.scanned c.deref.ensures.value in
    let off : s.skips ≡ false = ap (λ (q : Pending). q.in_long) c.self.view_is ∙ c.requires in
    let h = subst (λ (q : List ℕ). behind s.scan.mode q ≡ None) e c.in-None.ensures.found.0 in
    let m = subst (λ (q : List ℕ). c.command_end-found.new.scan ≡ run s.scan q) e c.in-None.ensures.found.1 in
    let d = subst (λ (q : List ℕ). depth c.command_end-found.new.scan.mode ≤ depth s.scan.mode + length q) e c.in-None.ensures.depth in
    let l : c.len-self-inside.result ≡ length s.buffer.items = omega (arith, c.len-self-inside.ensures, s.buffer.ok.0) in
    kept_at_end s.buffer.items s.start s.scanned s.scan s.skips c.self.invariant off c.len-self-inside.result c.command_end-found.new.scan l h m d

pub returns-after-span-le-COMMAND_LIMIT-clause-items : goal.returns-after-span-le-COMMAND_LIMIT-clause-items
returns-after-span-le-COMMAND_LIMIT-clause-items c =
    let s = c.self.inside in
    let e = of_slice c.deref.result.now s.buffer.items s.scanned c.deref.ensures.value in
    let off : s.skips ≡ false = ap (λ (q : Pending). q.in_long) c.self.view_is ∙ c.requires in
    let n = subst (λ (q : List ℕ). c.in-Some.count ≤ length q) e c.in-Some.ensures.found.0 in
    let h = subst (λ (q : List ℕ). behind s.scan.mode q ≡ Some (drop c.in-Some.count q)) e c.in-Some.ensures.found.1 in
    let o : s.start ≤ s.scanned = c.self.invariant.in_order in
    let b : s.scanned ≤ length s.buffer.items = c.self.invariant.in_buffer in
    let lo : s.start ≤ s.scanned + c.in-Some.count = omega arith in
    let hi : s.scanned + c.in-Some.count ≤ length s.buffer.items = omega (arith, length-drop {A = ℕ}) in
    let scan = c.command_end-found.new.scan in
    let none = no_reach s.buffer.items s.start s.scanned s.scan s.skips c.self.invariant off scan in
    let next = next_here s.buffer.items s.start s.scan s.skips c.args.self.now c.self.view_is c.self.invariant.reached (s.scanned + c.in-Some.count) scan s.skips none in
    elim c.if-span-le-COMMAND_LIMIT.branch [
      | then-span-le-COMMAND_LIMIT w ↦
          rw w.result-is ((lo, hi), next (command (slice_range s.buffer.items s.start (s.scanned + c.in-Some.count))) (whole_items s.buffer.items s.start s.scanned s.scan s.skips c.self.invariant off c.in-Some.count scan n h w.if-span-le-COMMAND_LIMIT.true))
      | else-span-le-COMMAND_LIMIT w ↦ rw w.result-is (next long (long_items s.buffer.items s.start s.scanned s.scan s.skips c.self.invariant off c.in-Some.count scan n h w.if-span-le-COMMAND_LIMIT.false))
    ]

pub returns-after-span-le-COMMAND_LIMIT-clause-rest : goal.returns-after-span-le-COMMAND_LIMIT-clause-rest
returns-after-span-le-COMMAND_LIMIT-clause-rest c =
    let s = c.self.inside in
    let e = of_slice c.deref.result.now s.buffer.items s.scanned c.deref.ensures.value in
    let off : s.skips ≡ false = ap (λ (q : Pending). q.in_long) c.self.view_is ∙ c.requires in
    let h = subst (λ (q : List ℕ). behind s.scan.mode q ≡ Some (drop c.in-Some.count q)) e c.in-Some.ensures.found.1 in
    let scan = c.command_end-found.new.scan in
    rest_here s.buffer.items s.start s.scan s.skips c.args.self.now c.self.view_is c.self.invariant.reached (s.scanned + c.in-Some.count) scan s.skips (no_reach s.buffer.items s.start s.scanned s.scan s.skips c.self.invariant off scan)
    (found_blank s.buffer.items s.start s.scanned s.scan s.skips c.self.invariant off c.in-Some.count scan h)

pub returns-then-self-ge-COMMAND_LIMIT-clause-items : goal.returns-then-self-ge-COMMAND_LIMIT-clause-items
returns-then-self-ge-COMMAND_LIMIT-clause-items c =
    let s = c.self.inside in
    let e = of_slice c.deref.result.now s.buffer.items s.scanned c.deref.ensures.value in
    let off : s.skips ≡ false = ap (λ (q : Pending). q.in_long) c.self.view_is ∙ c.requires in
    let h = subst (λ (q : List ℕ). behind s.scan.mode q ≡ None) e c.in-None.ensures.found.0 in
    let m = subst (λ (q : List ℕ). c.command_end-found.new.scan ≡ run s.scan q) e c.in-None.ensures.found.1 in
    let l : c.len-self-inside.result ≡ length s.buffer.items = omega (arith, c.len-self-inside.ensures, s.buffer.ok.0) in
    let k = invariant_of-self-then-self-ge-COMMAND_LIMIT c in
    next_here s.buffer.items s.start s.scan s.skips c.args.self.now c.self.view_is c.self.invariant.reached c.len-self-inside.result c.command_end-found.new.scan true k.reached long
    (rest_items s.buffer.items s.start s.scanned s.scan s.skips c.self.invariant off c.len-self-inside.result c.command_end-found.new.scan l h m c.if-self-ge-COMMAND_LIMIT.true)

pub returns-then-self-ge-COMMAND_LIMIT-clause-rest : goal.returns-then-self-ge-COMMAND_LIMIT-clause-rest
returns-then-self-ge-COMMAND_LIMIT-clause-rest c =
    let s = c.self.inside in
    let e = of_slice c.deref.result.now s.buffer.items s.scanned c.deref.ensures.value in
    let off : s.skips ≡ false = ap (λ (q : Pending). q.in_long) c.self.view_is ∙ c.requires in
    let h = subst (λ (q : List ℕ). behind s.scan.mode q ≡ None) e c.in-None.ensures.found.0 in
    let m = subst (λ (q : List ℕ). c.command_end-found.new.scan ≡ run s.scan q) e c.in-None.ensures.found.1 in
    let l : c.len-self-inside.result ≡ length s.buffer.items = omega (arith, c.len-self-inside.ensures, s.buffer.ok.0) in
    let k = invariant_of-self-then-self-ge-COMMAND_LIMIT c in
    rest_here s.buffer.items s.start s.scan s.skips c.args.self.now c.self.view_is c.self.invariant.reached c.len-self-inside.result c.command_end-found.new.scan true k.reached
    (rest_blank s.buffer.items s.start s.scanned s.scan s.skips c.self.invariant off c.len-self-inside.result c.command_end-found.new.scan l h m)

pub returns-else-self-ge-COMMAND_LIMIT-clause-items : goal.returns-else-self-ge-COMMAND_LIMIT-clause-items
returns-else-self-ge-COMMAND_LIMIT-clause-items c =
    let s = c.self.inside in
    let e = of_slice c.deref.result.now s.buffer.items s.scanned c.deref.ensures.value in
    let off : s.skips ≡ false = ap (λ (q : Pending). q.in_long) c.self.view_is ∙ c.requires in
    let h = subst (λ (q : List ℕ). behind s.scan.mode q ≡ None) e c.in-None.ensures.found.0 in
    let l : c.len-self-inside.result ≡ length s.buffer.items = omega (arith, c.len-self-inside.ensures, s.buffer.ok.0) in
    let scan = c.command_end-found.new.scan in
    let none = no_reach s.buffer.items s.start s.scanned s.scan s.skips c.self.invariant off scan in
    let same = more_items s.buffer.items s.start s.scanned s.scan s.skips c.self.invariant off scan in
    let end = more_none s.buffer.items s.start s.scanned s.scan s.skips c.self.invariant off c.len-self-inside.result l h c.if-self-ge-COMMAND_LIMIT.false in (
      none_here s.buffer.items s.start scan s.skips (view_of s.buffer.items s.start scan s.skips) refl none (same [] ∙ end),
      same_here s.buffer.items s.start s.scan s.skips c.args.self.now c.self.view_is c.self.invariant.reached s.start scan s.skips none same,
    )
