use Rattle.std.proofs.Common.{◌≡◌, ◌↔◌, Some, IsTrue, ap, sym, ◌∙◌, rules}
use Rattle.ab_grammar.proofs.Following.{first}
use Rattle.ab_expressions.specs.declared.located_tokens.Seen.{Seen}
use Rattle.ab_expressions.specs.Kinds.{key_of}
use Rattle.ab_expressions.specs.Reader.{seen, rest}
use Rattle.ab_expressions.proofs.Places.{first_more}
use Rattle.ab_expressions.proofs.Seeing.{of_kind, kind_is}
use Rattle.ab_expressions.proofs.text.is_next.Goals as goal

pub returns-then-here-text-clause-next : goal.returns-then-here-text-clause-next
returns-then-here-text-clause-next c =
    let s = c.index-text-here.result in
    let same : IsTrue c.eq.result ↔ (s.kind ≡ c.args.key) = search rules in
    let is : first (rest c.args.text.now c.args.here) ≡ Some (seen s) = first_more c.args.text.now c.args.here s c.if-here-text.true ∙ ap (λ (x : Seen). Some (seen x)) (sym c.index-text-here.is) in
    (λ h. is ∙ ap Some (of_kind s c.args.key c.requires (same.0 h)), λ e. let k : seen s ≡ key_of c.args.key = (let both = sym is ∙ e in cc) in same.1 (kind_is s c.args.key k))
