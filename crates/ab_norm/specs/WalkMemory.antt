-- What walks keep of terms that they have been through.
use Rattle.std.specs.Prelude.{ℕ, Bool, ◌==◌, ◌&&◌, Option}
use Rattle.std.specs.HashMap.{get}
use Rattle.std.specs.HashSet as bag
use Rattle.ab_store.specs.declared.node.TermId.{TermId}
use Rattle.ab_norm.specs.declared.memo.Memo.{Memo}
use Rattle.ab_norm.specs.declared.memo.Agreed.{Agreed}
use Rattle.ab_norm.specs.declared.memo.Seen.{Seen}

abbrev pub same_term : TermId → TermId → Bool
same_term a b = a.0 == b.0

abbrev pub same_place : TermId × ℕ → TermId × ℕ → Bool
same_place p q = same_term p.0 q.0 && (p.1 == q.1)

abbrev pub same_pair : TermId × TermId → TermId × TermId → Bool
same_pair p q = same_term p.0 q.0 && same_term p.1 q.1

-- what is kept for a term under that many binders
abbrev pub answer_of : Memo → TermId → ℕ → Option TermId
answer_of memo t depth = get same_place memo.answers (t, depth)

-- whether the pair is kept
abbrev pub has_agreed : Agreed → TermId → TermId → Bool
has_agreed agreed a b = bag.contains same_pair agreed.pairs (a, b)

-- whether the term is kept
abbrev pub has_been : Seen → TermId → Bool
has_been seen t = bag.contains same_term seen.terms t
