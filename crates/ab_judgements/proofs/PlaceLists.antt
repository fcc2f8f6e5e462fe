-- Places one after another, and the rules that stand there.
use Rattle.std.proofs.Common.{◌≡◌, ℕ, zero, suc, ◌+◌, ◌<◌, List, [], ◌∷◌, ◌++◌, take, drop, length, get_or, Option, None, refl, sym, ◌∙◌, ap, arith}
use Rattle.std.proofs.lemmas.List.{take_more, drop_more, drop_all, take-append-drop}
use Rattle.std.proofs.lemmas.List.Elements.{filter_map-append}
use Rattle.ab_theory.specs.SpecRules.{SpecRule}
use Rattle.ab_judgements.specs.RuleWalks.{rules_in, rule_in}

abbrev Slots : Type 0
Slots = List (Option SpecRule)

got : (s : Slots) (i : ℕ) → get_or s i None ≡ rule_in s i
got [] zero = refl
got [] (suc i) = refl
got (x ∷ s) zero = refl
got (x ∷ s) (suc i) = got s i

pub taken : (s : Slots) (i : ℕ) → i < length s → take (i + 1) s ≡ take i s ++ rule_in s i ∷ []
taken s i low = take_more s i None low ∙ ap (λ r. take i s ++ r ∷ []) (got s i)

dropped : (s : Slots) (i : ℕ) → i < length s → drop i s ≡ rule_in s i ∷ drop (i + 1) s
dropped s i low = drop_more s i None low ∙ ap (λ r. r ∷ drop (i + 1) s) (got s i)

last_dropped : (s : Slots) (n : ℕ) → n + 1 ≡ length s → drop n s ≡ rule_in s n ∷ []
last_dropped s n e = dropped s n (omega (arith, e)) ∙ ap (λ l. rule_in s n ∷ l) (drop_all (n + 1) s (omega (arith, e)))

-- all places, up to one and behind it
pub parted : (s : Slots) (i : ℕ) → i < length s → s ≡ take i s ++ rule_in s i ∷ drop (i + 1) s
parted s i low = sym (take-append-drop i s) ∙ ap (λ l. take i s ++ l) (dropped s i low)

pub last_parted : (s : Slots) (n : ℕ) → n + 1 ≡ length s → s ≡ take n s ++ rule_in s n ∷ []
last_parted s n e = sym (take-append-drop n s) ∙ ap (λ l. take n s ++ l) (last_dropped s n e)

pub rules_both : (xs ys : Slots) → rules_in (xs ++ ys) ≡ rules_in xs ++ rules_in ys
rules_both xs ys = filter_map-append (λ r. r) xs ys
