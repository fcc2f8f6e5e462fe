use Rattle.std.proofs.Common.{◌≡◌, ◌≤◌, ◌+◌, List, ℕ, false, length, drop, Some, None, refl, arith, subst}
use Rattle.ab_lex.specs.Scanner.{behind, run, fresh, depth}
use Rattle.ab_lex.specs.SplitterFields.{view_of}
use Rattle.ab_lex.proofs.Steps.{of_slice, past_items, past_blank, still_items, still_blank, still_none, kept_in_long}
use Rattle.ab_lex.proofs.Awaiting.{same_here, rest_here, none_here}
use Rattle.ab_lex.proofs.splitter.Splitter.is_past_long.Goals as goal

pub invariant_of-self-in-None : goal.invariant_of-self-in-None
invariant_of-self-in-None c =
    let s = c.self.inside in
    let e = of_slice c.deref.result.now s.buffer.items s.scanned c.deref.ensures.value in
    let m = subst (λ (q : List ℕ). c.command_end-found.new.scan ≡ run s.scan q) e c.in-None.ensures.found.1 in
    let d = subst (λ (q : List ℕ). depth c.command_end-found.new.scan.mode ≤ depth s.scan.mode + length q) e c.in-None.ensures.depth in
    let l : c.len-self-inside.result ≡ length s.buffer.items = omega (arith, c.len-self-inside.ensures, s.buffer.ok.0) in
    kept_in_long s.buffer.items s.start s.scanned s.scan s.skips c.self.invariant c.if-not-self.false c.len-self-inside.result c.command_end-found.new.scan l m d

pub returns-in-Some-clause-items : goal.returns-in-Some-clause-items
returns-in-Some-clause-items c =
    let s = c.self.inside in
    let e = of_slice c.deref.result.now s.buffer.items s.scanned c.deref.ensures.value in
    let h = subst (λ (q : List ℕ). behind s.scan.mode q ≡ Some (drop c.in-Some.count q)) e c.in-Some.ensures.found.1 in
    same_here s.buffer.items s.start s.scan s.skips c.args.self.now c.self.view_is c.self.invariant.reached (s.scanned + c.in-Some.count) fresh false (λ t. cc)
    (past_items s.buffer.items s.start s.scanned s.scan s.skips c.self.invariant c.if-not-self.false c.in-Some.count h)

pub returns-in-Some-clause-rest : goal.returns-in-Some-clause-rest
returns-in-Some-clause-rest c =
    let s = c.self.inside in
    let e = of_slice c.deref.result.now s.buffer.items s.scanned c.deref.ensures.value in
    let h = subst (λ (q : List ℕ). behind s.scan.mode q ≡ Some (drop c.in-Some.count q)) e c.in-Some.ensures.found.1 in
    rest_here s.buffer.items s.start s.scan s.skips c.args.self.now c.self.view_is c.self.invariant.reached (s.scanned + c.in-Some.count) fresh false (λ t. cc)
    (past_blank s.buffer.items s.start s.scanned s.scan s.skips c.self.invariant c.if-not-self.false c.in-Some.count h)

pub returns-in-None-clause-inside : goal.returns-in-None-clause-inside
returns-in-None-clause-inside c = λ _.
    let s = c.self.inside in
    let k = invariant_of-self-in-None c in
    let l : length s.buffer.items ≤ c.len-self-inside.result = omega (arith, c.len-self-inside.ensures, s.buffer.ok.0) in
    let scan = c.command_end-found.new.scan in
    none_here s.buffer.items c.len-self-inside.result scan s.skips (view_of s.buffer.items c.len-self-inside.result scan s.skips) refl k.reached
    (still_none s.buffer.items s.start s.scanned s.scan s.skips c.self.invariant c.if-not-self.false c.len-self-inside.result scan l)

pub returns-in-None-clause-items : goal.returns-in-None-clause-items
returns-in-None-clause-items c =
    let s = c.self.inside in
    let e = of_slice c.deref.result.now s.buffer.items s.scanned c.deref.ensures.value in
    let h = subst (λ (q : List ℕ). behind s.scan.mode q ≡ None) e c.in-None.ensures.found.0 in
    let m = subst (λ (q : List ℕ). c.command_end-found.new.scan ≡ run s.scan q) e c.in-None.ensures.found.1 in
    let l : length s.buffer.items ≤ c.len-self-inside.result = omega (arith, c.len-self-inside.ensures, s.buffer.ok.0) in
    let k = invariant_of-self-in-None c in
    same_here s.buffer.items s.start s.scan s.skips c.args.self.now c.self.view_is c.self.invariant.reached c.len-self-inside.result c.command_end-found.new.scan s.skips k.reached
    (still_items s.buffer.items s.start s.scanned s.scan s.skips c.self.invariant c.if-not-self.false c.len-self-inside.result c.command_end-found.new.scan l h m)

pub returns-in-None-clause-rest : goal.returns-in-None-clause-rest
returns-in-None-clause-rest c =
    let s = c.self.inside in
    let e = of_slice c.deref.result.now s.buffer.items s.scanned c.deref.ensures.value in
    let h = subst (λ (q : List ℕ). behind s.scan.mode q ≡ None) e c.in-None.ensures.found.0 in
    let m = subst (λ (q : List ℕ). c.command_end-found.new.scan ≡ run s.scan q) e c.in-None.ensures.found.1 in
    let l : length s.buffer.items ≤ c.len-self-inside.result = omega (arith, c.len-self-inside.ensures, s.buffer.ok.0) in
    let k = invariant_of-self-in-None c in
    rest_here s.buffer.items s.start s.scan s.skips c.args.self.now c.self.view_is c.self.invariant.reached c.len-self-inside.result c.command_end-found.new.scan s.skips k.reached
    (still_blank s.buffer.items s.start s.scanned s.scan s.skips c.self.invariant c.if-not-self.false c.len-self-inside.result c.command_end-found.new.scan l h m)
