use Rattle.std.proofs.Common.{◌≡◌, ◌≢◌, ◌≤◌, ℕ, zero, suc, Bool, true, false, leb, ap, refl, sym, ◌∙◌, subst, arith, rules}
use Rattle.std.proofs.lemmas.Bool.{leb-true, leb-false}
use Rattle.std.specs.Bool.{then_some}
use Rattle.ab_grammar.specs.Token.{Token, other, number}
use Rattle.ab_grammar.specs.CommandTable.{ShowsNumber, shows_number, ShowsDepth, shows_depth, ShowsLimit, shows_limit}
use Rattle.ab_expressions.specs.declared.kind.Kind.TheVariants as kind
use Rattle.ab_syntax.specs.declared.leaf.NumberForm.{NumberForm}
use Rattle.ab_syntax.specs.declared.leaf.NumberForm.TheVariants as form
use Rattle.ab_expressions.specs.declared.located_tokens.Seen.{Seen}
use Rattle.ab_syntax.specs.Leaves.{IsShown, number_form}
use Rattle.ab_expressions.specs.Reader.{seen}
use Rattle.ab_syntax.proofs.Leaves.{nominal_kind, nominal_where, number_kind, depth_kind, limit_kind, word_seen, number_seen, of_kind}
use Rattle.ab_syntax.proofs.leaf.NumberFormShown.value_shown.Goals as goal

shallow : (v : ℕ) (k : Token) (n : ℕ) → k ≡ other (number v) → ShowsDepth k n → v ≤ 1000
shallow v _ _ e (shows_depth n h) = let same : n ≡ v = cc in subst (λ m. m ≤ 1000) same h

-- a number is a depth where it is small enough
depth_where : (v : ℕ) (k : Token) (b : Bool) → k ≡ other (number v) → b ≡ leb v 1000 → IsShown (number_form form.Depth) k (then_some b v)
depth_where v k true e is = subst (λ (j : Token). ShowsDepth j v) (sym e) (shows_depth v (leb-true v 1000 (sym is)))
depth_where v k false e is = λ n d. let high = leb-false v 1000 (sym is) in let low = shallow v k n e d in absurd (omega (arith, high, low))

pub returns-in-Word-Nominal : goal.returns-in-Word-Nominal
returns-in-Word-Nominal c =
    let s = c.args.token in
    rw c.in-Word-Nominal.is-1 (nominal_where s.written.now s.place (seen s) c.nominal.result (word_seen s c.in-Word-Nominal.is-0) c.nominal.ensures)

pub returns-in-Number-Any : goal.returns-in-Number-Any
returns-in-Number-Any c =
    rw c.in-Number-Any.is-1 (subst (λ (k : Token). ShowsNumber k c.value.result) (ap (λ n. other (number n)) c.value.ensures.value ∙ sym (number_seen c.args.token c.in-Number-Any.is-0)) (shows_number c.value.result))

pub returns-in-Number-Depth : goal.returns-in-Number-Depth
returns-in-Number-Depth c =
    let same = number_seen c.args.token c.in-Number-Depth.is-0 ∙ ap (λ n. other (number n)) (sym c.value-depth.ensures.value) in
    rw (c.in-Number-Depth.is-1, c.then_some.ensures) (depth_where c.value-depth.result (seen c.args.token) (leb c.value-depth.result 1000) same refl)

-- it is a limit where it is small enough, and not 0
limited : (v : ℕ) (k : Token) (n : ℕ) → k ≡ other (number v) → ShowsLimit k n → (1 ≤ v) × (v ≤ 1000)
limited v _ _ e (shows_limit n l h) = let same : n ≡ v = cc in subst (λ m. (1 ≤ m) × (m ≤ 1000)) same (l, h)

limit_where : (v : ℕ) (k : Token) (b : Bool) → k ≡ other (number v) → v ≢ 0 → b ≡ leb v 1000 → IsShown (number_form form.Limit) k (then_some b v)
limit_where v k true e n is = subst (λ (j : Token). ShowsLimit j v) (sym e) (shows_limit v (positive v n) (leb-true v 1000 (sym is)))
  where
    positive : (m : ℕ) → m ≢ 0 → 1 ≤ m
    positive zero n = absurd (n refl)
    positive (suc m) n = omega arith
limit_where v k false e n is = λ m d. let high = leb-false v 1000 (sym is) in let low = (limited v k m e d).1 in absurd (omega (arith, high, low))

pub returns-then-limit-eq0 : goal.returns-then-limit-eq0
returns-then-limit-eq0 c =
    let same = number_seen c.args.token c.in-Number-Limit.is-0 ∙ ap (λ n. other (number n)) (sym c.value-limit.ensures.value) in
    rw c.in-Number-Limit.is-1 (λ n d. let low = (limited c.value-limit.result (seen c.args.token) n same d).0 in absurd (omega (arith, c.if-limit-eq0.true, low)))

pub returns-else-limit-eq0 : goal.returns-else-limit-eq0
returns-else-limit-eq0 c =
    let same = number_seen c.args.token c.in-Number-Limit.is-0 ∙ ap (λ n. other (number n)) (sym c.value-limit.ensures.value) in
    rw (c.in-Number-Limit.is-1, c.then_some-in-Number-Limit.ensures) (limit_where c.value-limit.result (seen c.args.token) (leb c.value-limit.result 1000) same c.if-limit-eq0.false refl)

-- a word shows a nominal name alone, a number shows none, and no other token shows a number
unshown : (f : NumberForm) (s : Seen) → (s.kind ≡ kind.Word → f ≢ form.Nominal) → (s.kind ≡ kind.Number → f ≡ form.Nominal) → (n : (number_form f).Meant) → (number_form f).shows (seen s) n → ⊥
unshown form.Nominal s w n x d = w (of_kind s _ (nominal_kind _ x d)) refl
unshown form.Any s w n x d = let bad = n (of_kind s _ (number_kind _ x d)) in absurd (cc)
unshown form.Depth s w n x d = let bad = n (of_kind s _ (depth_kind _ x d)) in absurd (cc)
unshown form.Limit s w n x d = let bad = n (of_kind s _ (limit_kind _ x d)) in absurd (cc)

pub returns-in_default : goal.returns-in_default
returns-in_default c = unshown c.args.self c.args.token (λ e. c.in_default.not-Nominal-1) (λ e. let bad = sym c.in_default.is-0 ∙ e in absurd (cc))

pub returns-in_default-2 : goal.returns-in_default-2
returns-in_default-2 c = unshown c.args.self c.args.token (λ e. let bad = sym c.in_default.is-0 ∙ e in absurd (cc)) (λ e. c.in_default.is-1)

pub returns-in_default-3 : goal.returns-in_default-3
returns-in_default-3 c =
    let no_word : c.args.token.kind ≢ kind.Word = search rules in
    let no_number : c.args.token.kind ≢ kind.Number = search rules in
    unshown c.args.self c.args.token (λ e. absurd (no_word e)) (λ e. absurd (no_number e))
