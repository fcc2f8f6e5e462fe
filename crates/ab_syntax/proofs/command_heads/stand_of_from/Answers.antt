use Rattle.std.proofs.Common.{◌≡◌, ◌<◌, ◌↔◌, IsTrue, Some, length, refl, ap, sym, ◌∙◌, subst, drop, rules}
use Rattle.ab_lex.specs.declared.token.Token.{Token as Lexed}
use Rattle.ab_lex.specs.declared.token.TokenKind.TheVariants as lexed
use Rattle.ab_grammar.specs.declared.head.Stand.TheVariants.{Inside}
use Rattle.ab_grammar.specs.Token.{colon}
use Rattle.ab_grammar.proofs.Following.{first}
use Rattle.ab_grammar.specs.CommandTable.{StandsAt}
use Rattle.ab_expressions.specs.declared.kind.Kind.TheVariants as kind
use Rattle.ab_expressions.specs.Tokens.{token_of, tokens_from}
use Rattle.ab_expressions.specs.Reader.{seen}
use Rattle.ab_expressions.proofs.Seeing.{of_kind, kind_is}
use Rattle.ab_syntax.proofs.Standing.{first_at, none_at, exactly, nowhere, plain_stands, proof_stands, label_stands, nothing_stands, no_colon_stands}
use Rattle.ab_syntax.proofs.command_heads.stand_of_from.Goals as goal
use Rattle.ab_syntax.proofs.command_heads.stand_of_from.Goals.{else-tokens-gt1-via-then-tokens-gt1+else-eq, else-tokens-gt1-via-else-tokens-gt1}

abbrev no_token : Lexed
no_token = record { kind = lexed.Word; span = record { start = 0; end = 0 } }

pub returns-in-Plain : goal.returns-in-Plain
returns-in-Plain c = λ s.
    let ts = tokens_from c.args.bytes.now c.args.origin c.args.tokens.now in
    let some : 0 < length c.args.tokens.now = search rules in
    let e : first ts ≡ Some (seen c.see.result) = first_at (token_of c.args.bytes.now c.args.origin) c.args.tokens.now 0 no_token some ∙ ap Some (sym c.see.ensures.token) in
    exactly ts c.stand.result s (subst (StandsAt ts) (sym c.stand.ensures) (plain_stands ts (seen c.see.result) c.in-Plain.head e c.in-Plain.ensures))

pub returns-in-Proof : goal.returns-in-Proof
returns-in-Proof c = λ s.
    let ts = tokens_from c.args.bytes.now c.args.origin c.args.tokens.now in
    let some : 0 < length c.args.tokens.now = search rules in
    let e : first ts ≡ Some (seen c.see.result) = first_at (token_of c.args.bytes.now c.args.origin) c.args.tokens.now 0 no_token some ∙ ap Some (sym c.see.ensures.token) in
    exactly ts Inside s (proof_stands ts (seen c.see.result) c.in-Proof.field-0 e c.in-Proof.ensures)

pub returns-then-eq : goal.returns-then-eq
returns-then-eq c = λ s.
    let ts = tokens_from c.args.bytes.now c.args.origin c.args.tokens.now in
    let some : 0 < length c.args.tokens.now = search rules in
    let e : first ts ≡ Some (seen c.see.result) = first_at (token_of c.args.bytes.now c.args.origin) c.args.tokens.now 0 no_token some ∙ ap Some (sym c.see.ensures.token) in
    let f : first (drop 1 ts) ≡ Some (seen c.see-then-tokens-gt1.result) = first_at (token_of c.args.bytes.now c.args.origin) c.args.tokens.now 1 no_token c.if-tokens-gt1.true ∙ ap Some (sym c.see-then-tokens-gt1.ensures.token) in
    let same : c.see-then-tokens-gt1.result.kind ≡ kind.Colon = search rules in
    exactly ts Inside s (label_stands ts (seen c.see.result) c.see.result.written.now e c.in-Label.ensures (f ∙ ap Some (of_kind c.see-then-tokens-gt1.result kind.Colon (λ w p. refl) same)))

pub returns-else-tokens-gt1 : goal.returns-else-tokens-gt1
returns-else-tokens-gt1 c = λ s.
    let ts = tokens_from c.args.bytes.now c.args.origin c.args.tokens.now in
    let some : 0 < length c.args.tokens.now = search rules in
    let e : first ts ≡ Some (seen c.see.result) = first_at (token_of c.args.bytes.now c.args.origin) c.args.tokens.now 0 no_token some ∙ ap Some (sym c.see.ensures.token) in
    nowhere ts s (no_colon_stands ts (seen c.see.result) c.see.result.written.now s e c.in-Label.ensures (λ colon_next. elim c.else-tokens-gt1.branch [
      | else-tokens-gt1-via-then-tokens-gt1+else-eq w ↦
          let f : first (drop 1 ts) ≡ Some (seen w.see-then-tokens-gt1.result) = first_at (token_of c.args.bytes.now c.args.origin) c.args.tokens.now 1 no_token w.if-tokens-gt1.true ∙ ap Some (sym w.see-then-tokens-gt1.ensures.token) in
          let is : seen w.see-then-tokens-gt1.result ≡ colon = (let both = sym f ∙ colon_next in cc) in
          let same : IsTrue w.eq.result ↔ (w.see-then-tokens-gt1.result.kind ≡ kind.Colon) = search rules in
          let yes : IsTrue w.eq.result = same.1 (kind_is w.see-then-tokens-gt1.result kind.Colon is) in
          let no = w.if-eq.false in
          absurd (cc)
      | else-tokens-gt1-via-else-tokens-gt1 w ↦ let none = sym (none_at (token_of c.args.bytes.now c.args.origin) c.args.tokens.now 1 w.if-tokens-gt1.false) ∙ colon_next in absurd (cc)
    ]))

pub returns-in-Nothing : goal.returns-in-Nothing
returns-in-Nothing c = λ s.
    let ts = tokens_from c.args.bytes.now c.args.origin c.args.tokens.now in
    let some : 0 < length c.args.tokens.now = search rules in
    let e : first ts ≡ Some (seen c.see.result) = first_at (token_of c.args.bytes.now c.args.origin) c.args.tokens.now 0 no_token some ∙ ap Some (sym c.see.ensures.token) in
    nowhere ts s (nothing_stands ts (seen c.see.result) s e c.in-Nothing.ensures)
