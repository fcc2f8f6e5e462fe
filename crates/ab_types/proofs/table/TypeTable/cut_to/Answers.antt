use Rattle.std.proofs.Common.{◌≡◌, ◌∙◌, ◌++◌, sym, ap, arith, length, take, drop}
use Rattle.std.proofs.lemmas.List.{take-append-drop}
use Rattle.ab_types.proofs.table.TypeTable.cut_to.Goals as goal

pub returns-clause-entries : goal.returns-clause-entries
returns-clause-entries g c =
    let size : length c.loop-self.self ≡ c.args.len = omega arith in
    c.loop-self.invariant.front ∙ ap (λ n. take n c.args.self.now) size

pub returns-clause-front : goal.returns-clause-front
returns-clause-front g c =
    let size : length c.loop-self.self ≡ c.args.len = omega arith in
    let same = c.loop-self.invariant.front ∙ ap (λ n. take n c.args.self.now) size in
    (drop c.args.len c.args.self.now, sym (ap (λ t. t ++ drop c.args.len c.args.self.now) same ∙ take-append-drop c.args.len c.args.self.now))
