-- The numbers of nominal names, as a list.
use Rattle.std.proofs.Common.{◌≡◌, ℕ, ◌+◌, ◌<◌, List, [], ◌∷◌, ◌++◌, map, take, length, get_or, sym, ap, ◌∙◌}
use Rattle.std.proofs.lemmas.List.{length-map, get_or-map, map_more}
use Rattle.ab_meaning.specs.ResolvedNames.{Name}
use Rattle.ab_infer.specs.Outcomes.{AreNumbers, number_of}

pub are_numbers : (names : List Name) (numbers : List ℕ) → numbers ≡ map number_of names → AreNumbers names numbers
are_numbers names numbers e = record {
  len = ap length e ∙ length-map names number_of;
  at = λ j l. ap (λ ns. get_or ns j 0) e ∙ get_or-map number_of names j [] 0 l;
}

-- the next name's number
pub one_more : (names : List Name) (before after : List ℕ) (i : ℕ) (x : Name) (n : ℕ) → before ≡ map number_of (take i names) → i < length names → x ≡ get_or names i x → n ≡ number_of x → after ≡ before ++ n ∷ []
    → after ≡ map number_of (take (i + 1) names)
one_more names before after i x n e l at is push =
    push ∙ (ap (λ ns. ns ++ n ∷ []) e ∙ (ap (λ m. map number_of (take i names) ++ m ∷ []) (is ∙ ap number_of at) ∙ sym (map_more number_of names i x l)))
