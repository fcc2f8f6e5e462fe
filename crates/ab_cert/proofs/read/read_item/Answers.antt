use Rattle.std.proofs.Common.{◌≡◌, ◌<◌, refl, sym, ◌∙◌, subst, rules}
use Rattle.ab_cert.specs.Signs.{type_of}
use Rattle.ab_cert.specs.Values.{item_of, clause_of}
use Rattle.ab_cert.specs.declared.cert.CertItem.TheVariants as CI
use Rattle.ab_cert.proofs.ItemRead.{letter_place, letter_bound, place_of_item, left_of_item, place_of_end, kind_read, const_read, block_taken, program_read, theorem_taken}
use Rattle.ab_cert.proofs.read.read_item.Goals as goal

pub returns-in_ok-read-in-0 : goal.returns-in_ok-read-in-0
returns-in_ok-read-in-0 c = (
  (λ x rest h e.
      let place = place_of_item x rest _ _ _ _ e c.next_piece.ensures.piece c.next_piece.ensures.left c.place_of.ensures in
      let left = left_of_item x rest _ _ _ _ e c.next_piece.ensures.piece c.next_piece.ensures.left c.place_of.ensures in
      (CI.Kind c.in_ok-read-in-0.field-0, (refl, kind_read rest _ _ x c.in_ok-read-in-0.field-0 h (sym place ∙ c.in-0.is) left c.in_ok-read-in-0.ensures))),
  (λ rest e.
      let end : c.place_of.result ≡ 5 = place_of_end rest _ _ _ e c.next_piece.ensures.piece c.place_of.ensures in
      let here : c.place_of.result ≡ 0 = c.in-0.is in
      absurd (search rules)),
)

pub returns-in_ok-name-in-1 : goal.returns-in_ok-name-in-1
returns-in_ok-name-in-1 c = (
  (λ x rest h e.
      let place = place_of_item x rest _ _ _ _ e c.next_piece.ensures.piece c.next_piece.ensures.left c.place_of.ensures in
      let left = left_of_item x rest _ _ _ _ e c.next_piece.ensures.piece c.next_piece.ensures.left c.place_of.ensures in
      (CI.Const c.in_ok-name-in-1.name c.in_ok-name-in-1.ty, (refl, const_read rest _ _ x c.in_ok-name-in-1.name (type_of c.in_ok-name-in-1.ty) h (sym place ∙ c.in-1.is) left c.in_ok-name-in-1.ensures))),
  (λ rest e.
      let end : c.place_of.result ≡ 5 = place_of_end rest _ _ _ e c.next_piece.ensures.piece c.place_of.ensures in
      let here : c.place_of.result ≡ 1 = c.in-1.is in
      absurd (search rules)),
)

pub returns-in_ok-read_block-in-2 : goal.returns-in_ok-read_block-in-2
returns-in_ok-read_block-in-2 c = (
  (λ x rest h e.
      let place = place_of_item x rest _ _ _ _ e c.next_piece.ensures.piece c.next_piece.ensures.left c.place_of.ensures in
      let left = left_of_item x rest _ _ _ _ e c.next_piece.ensures.piece c.next_piece.ensures.left c.place_of.ensures in
      (c.in_ok-read_block-in-2.field-0, (refl, block_taken rest _ _ x (item_of c.in_ok-read_block-in-2.field-0) h (sym place ∙ c.in-2.is) left c.in_ok-read_block-in-2.ensures))),
  (λ rest e.
      let end : c.place_of.result ≡ 5 = place_of_end rest _ _ _ e c.next_piece.ensures.piece c.place_of.ensures in
      let here : c.place_of.result ≡ 2 = c.in-2.is in
      absurd (search rules)),
)

pub returns-in_ok-read_clause-in-3 : goal.returns-in_ok-read_clause-in-3
returns-in_ok-read_clause-in-3 c = (
  (λ x rest h e.
      let place = place_of_item x rest _ _ _ _ e c.next_piece.ensures.piece c.next_piece.ensures.left c.place_of.ensures in
      let left = left_of_item x rest _ _ _ _ e c.next_piece.ensures.piece c.next_piece.ensures.left c.place_of.ensures in
      (CI.Program c.in_ok-read_clause-in-3.field-0, (refl, program_read rest _ _ x (clause_of c.in_ok-read_clause-in-3.field-0) h (sym place ∙ c.in-3.is) left c.in_ok-read_clause-in-3.ensures))),
  (λ rest e.
      let end : c.place_of.result ≡ 5 = place_of_end rest _ _ _ e c.next_piece.ensures.piece c.place_of.ensures in
      let here : c.place_of.result ≡ 3 = c.in-3.is in
      absurd (search rules)),
)

pub returns-in_ok-read_theorem-in-4 : goal.returns-in_ok-read_theorem-in-4
returns-in_ok-read_theorem-in-4 c = (
  (λ x rest h e.
      let place = place_of_item x rest _ _ _ _ e c.next_piece.ensures.piece c.next_piece.ensures.left c.place_of.ensures in
      let left = left_of_item x rest _ _ _ _ e c.next_piece.ensures.piece c.next_piece.ensures.left c.place_of.ensures in
      (c.in_ok-read_theorem-in-4.field-0, (refl, theorem_taken rest _ _ x (item_of c.in_ok-read_theorem-in-4.field-0) h (sym place ∙ c.in-4.is) left c.in_ok-read_theorem-in-4.ensures))),
  (λ rest e.
      let end : c.place_of.result ≡ 5 = place_of_end rest _ _ _ e c.next_piece.ensures.piece c.place_of.ensures in
      let here : c.place_of.result ≡ 4 = c.in-4.is in
      absurd (search rules)),
)

pub returns-in_default : goal.returns-in_default
returns-in_default c = (
  (λ x rest h e.
      let place = place_of_item x rest _ _ _ _ e c.next_piece.ensures.piece c.next_piece.ensures.left c.place_of.ensures in
      let small : c.place_of.result < 5 = subst (λ n. n < 5) (sym place) (letter_bound x) in
      absurd (search rules)),
  (λ rest e. refl),
)
