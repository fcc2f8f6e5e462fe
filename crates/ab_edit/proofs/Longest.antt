-- The longest kept prefix of a text has each other kept prefix as its front, where the test tells no two answers of a command.
use Rattle.std.proofs.Common.{◌≡◌, ℕ, true, false, List, [], ◌∷◌, ◌++◌, map, refl, sym, subst, append_assoc}
use Rattle.std.proofs.lemmas.List.{append-nil}
use Rattle.ab_io.specs.Replays.{Test}
use Rattle.ab_lex.specs.Commands.{Item, command}
use Rattle.ab_edit.specs.Prefixes.{IsPrefix, AreKept, IsEnd, IsLongestKept, IsMore}
use Rattle.ab_edit.proofs.Lists.{more_behind}
use Rattle.ab_edit.proofs.Fronts.{one_list}

module _ (t : Test) (one_answer : (before : List (List ℕ)) (bytes : List ℕ) → t before bytes true → t before bytes false → ⊥) where
  -- one ends where the other goes on
  ends_early : (pre : List (List ℕ)) (c : List ℕ) (rest : List (List ℕ)) (later items : List Item) → IsEnd t pre later → later ≡ command c ∷ items → AreKept t (pre ++ c ∷ rest) → ⊥
  ends_early pre c rest later items end e kept = one_answer pre c (kept pre rest c refl) (subst (λ q. IsEnd t pre q) e end)

  front_behind : (a b pre : List (List ℕ)) (la lb : List Item) → AreKept t (pre ++ b) → IsEnd t (pre ++ a) la → (◌≡◌ {A = List Item} (map command a ++ la) (map command b ++ lb)) → IsMore b a
  front_behind [] [] pre la lb kept end e = ([], refl)
  front_behind (c ∷ a) [] pre la lb kept end e = (c ∷ a, refl)
  front_behind [] (d ∷ b) pre la lb kept end e = absurd (ends_early pre d b la (map command b ++ lb) (subst (λ q. IsEnd t q la) (append-nil pre) end) e kept)
  front_behind (c ∷ a) (d ∷ b) pre la lb kept end e =
      let f : c ≡ d = cc in
      let g : map command a ++ la ≡ map command b ++ lb = cc in
      let left : (x : List ℕ) (y : List (List ℕ)) → pre ++ x ∷ y ≡ (pre ++ x ∷ []) ++ y = λ x y. sym (append_assoc pre (x ∷ []) y) in
      let same : AreKept t (pre ++ c ∷ b) = subst (λ q. AreKept t (pre ++ q ∷ b)) (sym f) kept in
      more_behind d c b a (sym f) (front_behind a b (pre ++ c ∷ []) la lb (subst (AreKept t) (left c b) same) (subst (λ q. IsEnd t q la) (left c a) end) g)

  -- NO KEPT PREFIX IS LONGER, and each is a front of it
  pub front_of_longest : (text : List ℕ) (a b : List (List ℕ)) → IsLongestKept t text a → IsPrefix text b → AreKept t b → IsMore b a
  front_of_longest text a b h p k =
      front_behind a b [] h.stopped.later p.0 k h.stopped.end
      (one_list text (map command a ++ h.stopped.later) (map command b ++ p.0) h.stopped.begins p.1)
