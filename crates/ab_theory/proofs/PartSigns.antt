-- WHERE EACH PART HAS A SIGN, and none of these is a mark.
use Rattle.std.specs.Prelude.{All}
use Rattle.std.proofs.Common.{◌≡◌, ℕ, List, [], ◌∷◌, Option, Some, None, refl, sym, ◌∙◌, ap, subst}
use Rattle.std.proofs.lemmas.List.Elements.{All-head, All-tail}
use Rattle.ab_term.specs.Terms.{Read}
use Rattle.ab_formulas.specs.Declarations.{Declarations}
use Rattle.ab_formulas.specs.Marks.{Sign, plain}
use Rattle.ab_theory.specs.Induction.{inductive_at, coinductive_in, sign_and, inductive_signs, coinductive_signs}

-- a sign, and those of the rest
pub record FirstAndRest (o : Option Sign) (p : Option (List Sign)) (ms : List Sign) : Type 0 where
  pub first : Sign
  pub rest : List Sign
  pub first_is : o ≡ Some first
  pub rest_is : p ≡ Some rest
  pub are : ms ≡ first ∷ rest

pub first_and_rest : (o : Option Sign) (p : Option (List Sign)) (ms : List Sign) → sign_and o p ≡ Some ms → FirstAndRest o p ms
first_and_rest (Some m) (Some ks) ms e = record { first = m; rest = ks; first_is = refl; rest_is = refl; are = let same : m ∷ ks ≡ ms = cc in sym same }
first_and_rest None p ms e = absurd (cc)
first_and_rest (Some m) None ms e = absurd (cc)

-- induction goes on an antecedent of each part that has no mark
abbrev pub AllInductive : Declarations → List ℕ → List Read → Type 0
AllInductive D [] [] = Unit {0}
AllInductive D (n ∷ ns) (F ∷ Fs) = (inductive_at D n F ≡ Some plain) × AllInductive D ns Fs
AllInductive D _ _ = ⊥

-- coinduction goes on an atom of each part that has no mark
abbrev pub AllCoinductive : Declarations → List Read → Type 0
AllCoinductive D [] = Unit {0}
AllCoinductive D (F ∷ Fs) = (coinductive_in D F ≡ Some plain) × AllCoinductive D Fs

abbrev IsPlain : Sign → Type 0
IsPlain m = m ≡ plain

module _ {o : Option Sign} {p : Option (List Sign)} {ms : List Sign} (all : All IsPlain ms) (so : FirstAndRest o p ms) where
  all_again : All IsPlain (so.first ∷ so.rest)
  all_again = subst (All IsPlain) so.are all

  first_plain : o ≡ Some plain
  first_plain = so.first_is ∙ ap Some (All-head IsPlain so.first so.rest all_again)

  rest_plain : All IsPlain so.rest
  rest_plain = All-tail IsPlain so.first so.rest all_again

pub all_inductive : (D : Declarations) (ns : List ℕ) (Fs : List Read) (ms : List Sign) → inductive_signs D ns Fs ≡ Some ms → All (λ m. m ≡ plain) ms → AllInductive D ns Fs
all_inductive D [] [] ms e all = tt
all_inductive D (n ∷ ns) (F ∷ Fs) ms e all =
    let so = first_and_rest (inductive_at D n F) (inductive_signs D ns Fs) ms e in
    (first_plain all so, all_inductive D ns Fs so.rest so.rest_is (rest_plain all so))
all_inductive D [] (F ∷ Fs) ms e all = absurd (cc)
all_inductive D (n ∷ ns) [] ms e all = absurd (cc)

pub all_coinductive : (D : Declarations) (Fs : List Read) (ms : List Sign) → coinductive_signs D Fs ≡ Some ms → All (λ m. m ≡ plain) ms → AllCoinductive D Fs
all_coinductive D [] ms e all = tt
all_coinductive D (F ∷ Fs) ms e all =
    let so = first_and_rest (coinductive_in D F) (coinductive_signs D Fs) ms e in
    (first_plain all so, all_coinductive D Fs so.rest so.rest_is (rest_plain all so))
