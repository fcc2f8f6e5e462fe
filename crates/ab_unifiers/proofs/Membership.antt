-- The clauses of `member` are clauses.
use Rattle.std.proofs.Common.{◌≡◌, ℕ, [], ◌∷◌, Bool, true, false, ◌||◌, refl}
use Rattle.std.specs.Prelude.{All}
use Rattle.std.proofs.lemmas.Bool.{false≢true}
use Rattle.std.proofs.lemmas.List.Elements.{All-cons, All-nil}
use Rattle.ab_term.specs.Types.{o, olist}
use Rattle.ab_term.specs.Terms.{Variable}
use Rattle.ab_term.specs.Typing.{Signature, typed_spine, take_none, take_term}
use Rattle.ab_term.specs.Sameness.{same_numbered}
use Rattle.ab_unifiers.specs.Clauses.{IsClause}
use Rattle.ab_unifiers.specs.Member.{Bytes, member_first, member_later, member_clauses, HasMember}

abbrev at : ℕ → Variable ℕ
at n = record { name = n; type = o }

abbrev rest : ℕ → Variable ℕ
rest n = record { name = n; type = olist }

twice : (a b : Bool) → (a || (a || (b || false))) ≡ true → (a || (b || false)) ≡ true
twice true b e = refl
twice false b e = e

one_more : (a b c : Bool) → (a || (c || false)) ≡ true → (a || (b || (c || false))) ≡ true
one_more true b c e = refl
one_more false true c e = refl
one_more false false c e = e

module _ (sg : Signature) (has : HasMember sg) where
  first : IsClause sg member_first
  first = record {
    head = typed_spine has.member (take_term (typed_spine refl take_none) (take_term (typed_spine has.cons (take_term (typed_spine refl take_none) (take_term (typed_spine refl take_none) take_none))) take_none));
    body = typed_spine refl take_none;
    head_without_constants = refl;
    body_without_constants = refl;
    head_variables = λ y h. twice (same_numbered (at 0) y) (same_numbered (rest 1) y) h;
    body_variables = λ y h. absurd (false≢true h);
  }

  later : IsClause sg member_later
  later = record {
    head = typed_spine has.member (take_term (typed_spine refl take_none) (take_term (typed_spine has.cons (take_term (typed_spine refl take_none) (take_term (typed_spine refl take_none) take_none))) take_none));
    body = typed_spine has.member (take_term (typed_spine refl take_none) (take_term (typed_spine refl take_none) take_none));
    head_without_constants = refl;
    body_without_constants = refl;
    head_variables = λ y h. h;
    body_variables = λ y h. one_more (same_numbered (at 0) y) (same_numbered (at 1) y) (same_numbered (rest 2) y) h;
  }

  pub member_defined : All (IsClause sg) member_clauses
  member_defined = All-cons (IsClause sg) member_first (member_later ∷ []) first (All-cons (IsClause sg) member_later [] later (All-nil (IsClause sg {Hint = Bytes})))
