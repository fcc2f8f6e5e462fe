-- Steps that are taken back one after another.
use Rattle.std.proofs.Common.{◌≡◌, ◌⊎◌, inl, inr, ℕ, ◌+◌, ◌-◌, ◌<◌, ◌≤◌, length, refl, ◌∙◌, ap, arith}
use Rattle.ab_proofcmd.specs.ab_hypothesis.specs.ab_steps.specs.ab_kernel.specs.Layout.{Held, before_last, before_steps, Beyond}
use Rattle.ab_proofcmd.specs.ab_hypothesis.specs.ab_steps.specs.ab_kernel.proofs.Earlier.{shorter, before_more}

-- how far steps were taken back
pub record IsBack (count : ℕ) (old now : Held) : Type 0 where
  pub back : now ≡ before_steps (length old.journal - length now.journal) old
  pub low : (count ≤ length now.journal) ⊎ (now ≡ old)
  pub high : length now.journal ≤ length old.journal

pub not_yet : (count : ℕ) (p : Held) → IsBack count p p
not_yet count p = record {
  back = ap (λ n. before_steps n p) (let none : 0 ≡ length p.journal - length p.journal = omega arith in none);
  low = inr refl;
  high = omega arith;
}

pub one_back : (count : ℕ) (old now new : Held) → IsBack count old now → count < length now.journal → new ≡ before_last now → IsBack count old new
one_back count old now new so_far l is =
    let less : length new.journal ≡ length now.journal - 1 = ap (λ (p : Held). length p.journal) is ∙ shorter now in
    record {
      back =
          is ∙ ap before_last so_far.back ∙ before_more old (length old.journal - length now.journal) 1
          ∙ ap (λ n. before_steps n old) (let same : (length old.journal - length now.journal) + 1 ≡ length old.journal - length new.journal = omega (arith, less, l, so_far.high) in same);
      low = inl (omega (arith, less, l));
      high = omega (arith, less, so_far.high);
    }

pub all_back : (count : ℕ) (old now p : Held) → IsBack count old now → length now.journal ≤ count → Beyond p old → count ≡ length p.journal → now ≡ p
all_back count old now p so_far l beyond counted =
    let as_many : length now.journal ≡ length p.journal =
    elim so_far.low [
      | inl low ↦ omega (arith, low, l, counted)
      | inr same ↦ omega (arith, ap (λ (q : Held). length q.journal) same, l, counted, beyond.more)
    ] in
    so_far.back ∙ ap (λ n. before_steps (length old.journal - n) old) as_many ∙ beyond.back
