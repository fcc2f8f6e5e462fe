use Rattle.std.proofs.Common.{◌≡◌, ◌<◌, codes, refl, rules}
use Rattle.ab_cert.specs.Tables.{nothing, a_type, a_level}
use Rattle.ab_cert.proofs.Signing.{place_of_sign, sign_found, bare_found, typed_found, level_found}
use Rattle.ab_cert.specs.Tables.{kind_of, signs}
use Rattle.ab_cert.proofs.Words.{row_within}
use Rattle.ab_cert.proofs.constants.read_sign.Goals as goal

pub returns-in-0 : goal.returns-in-0
returns-in-0 c = λ x rest h e. bare_found (codes "true") x rest _ (sign_found x rest _ _ _ _ 0 (codes "true") nothing h e c.next_piece.ensures.piece c.next_piece.ensures.left c.place_of.ensures c.in-0.is refl)

pub returns-in-1 : goal.returns-in-1
returns-in-1 c = λ x rest h e. bare_found (codes "false") x rest _ (sign_found x rest _ _ _ _ 1 (codes "false") nothing h e c.next_piece.ensures.piece c.next_piece.ensures.left c.place_of.ensures c.in-1.is refl)

pub returns-in-2 : goal.returns-in-2
returns-in-2 c = λ x rest h e. bare_found (codes "and") x rest _ (sign_found x rest _ _ _ _ 2 (codes "and") nothing h e c.next_piece.ensures.piece c.next_piece.ensures.left c.place_of.ensures c.in-2.is refl)

pub returns-in-3 : goal.returns-in-3
returns-in-3 c = λ x rest h e. bare_found (codes "or") x rest _ (sign_found x rest _ _ _ _ 3 (codes "or") nothing h e c.next_piece.ensures.piece c.next_piece.ensures.left c.place_of.ensures c.in-3.is refl)

pub returns-in-4 : goal.returns-in-4
returns-in-4 c = λ x rest h e. bare_found (codes "arrow") x rest _ (sign_found x rest _ _ _ _ 4 (codes "arrow") nothing h e c.next_piece.ensures.piece c.next_piece.ensures.left c.place_of.ensures c.in-4.is refl)

pub returns-in_ok-read-in-5 : goal.returns-in_ok-read-in-5
returns-in_ok-read-in-5 c = λ x rest h e. typed_found (codes "equal") x rest _ _ c.in_ok-read-in-5.field-0 (sign_found x rest _ _ _ _ 5 (codes "equal") a_type h e c.next_piece.ensures.piece c.next_piece.ensures.left c.place_of.ensures c.in-5.is refl) c.in_ok-read-in-5.ensures

pub returns-in_ok-read-in-6 : goal.returns-in_ok-read-in-6
returns-in_ok-read-in-6 c = λ x rest h e. typed_found (codes "forall") x rest _ _ c.in_ok-read-in-6.field-0 (sign_found x rest _ _ _ _ 6 (codes "forall") a_type h e c.next_piece.ensures.piece c.next_piece.ensures.left c.place_of.ensures c.in-6.is refl) c.in_ok-read-in-6.ensures

pub returns-in_ok-read-in-7 : goal.returns-in_ok-read-in-7
returns-in_ok-read-in-7 c = λ x rest h e. typed_found (codes "exists") x rest _ _ c.in_ok-read-in-7.field-0 (sign_found x rest _ _ _ _ 7 (codes "exists") a_type h e c.next_piece.ensures.piece c.next_piece.ensures.left c.place_of.ensures c.in-7.is refl) c.in_ok-read-in-7.ensures

pub returns-in_ok-read-in-8 : goal.returns-in_ok-read-in-8
returns-in_ok-read-in-8 c = λ x rest h e. typed_found (codes "nabla") x rest _ _ c.in_ok-read-in-8.field-0 (sign_found x rest _ _ _ _ 8 (codes "nabla") a_type h e c.next_piece.ensures.piece c.next_piece.ensures.left c.place_of.ensures c.in-8.is refl) c.in_ok-read-in-8.ensures

pub returns-in-9 : goal.returns-in-9
returns-in-9 c = λ x rest h e. bare_found (codes "judge") x rest _ (sign_found x rest _ _ _ _ 9 (codes "judge") nothing h e c.next_piece.ensures.piece c.next_piece.ensures.left c.place_of.ensures c.in-9.is refl)

pub returns-in-10 : goal.returns-in-10
returns-in-10 c = λ x rest h e. bare_found (codes "focus") x rest _ (sign_found x rest _ _ _ _ 10 (codes "focus") nothing h e c.next_piece.ensures.piece c.next_piece.ensures.left c.place_of.ensures c.in-10.is refl)

pub returns-in-11 : goal.returns-in-11
returns-in-11 c = λ x rest h e. level_found (codes "star") x rest _ _ _ (sign_found x rest _ _ _ _ 11 (codes "star") a_level h e c.next_piece.ensures.piece c.next_piece.ensures.left c.place_of.ensures c.in-11.is refl) c.next_number.ensures

pub returns-in-12 : goal.returns-in-12
returns-in-12 c = λ x rest h e. level_found (codes "at") x rest _ _ _ (sign_found x rest _ _ _ _ 12 (codes "at") a_level h e c.next_piece.ensures.piece c.next_piece.ensures.left c.place_of.ensures c.in-12.is refl) c.next_number-in-12.ensures

pub returns-in-13 : goal.returns-in-13
returns-in-13 c = λ x rest h e. level_found (codes "plus") x rest _ _ _ (sign_found x rest _ _ _ _ 13 (codes "plus") a_level h e c.next_piece.ensures.piece c.next_piece.ensures.left c.place_of.ensures c.in-13.is refl) c.next_number-in-13.ensures

pub returns-in-14 : goal.returns-in-14
returns-in-14 c = λ x rest h e. level_found (codes "hash") x rest _ _ _ (sign_found x rest _ _ _ _ 14 (codes "hash") a_level h e c.next_piece.ensures.piece c.next_piece.ensures.left c.place_of.ensures c.in-14.is refl) c.next_number-in-14.ensures

pub returns-in_ok-read-in-15 : goal.returns-in_ok-read-in-15
returns-in_ok-read-in-15 c = λ x rest h e. typed_found (codes "pi") x rest _ _ c.in_ok-read-in-15.field-0 (sign_found x rest _ _ _ _ 15 (codes "pi") a_type h e c.next_piece.ensures.piece c.next_piece.ensures.left c.place_of.ensures c.in-15.is refl) c.in_ok-read-in-15.ensures

pub returns-in-16 : goal.returns-in-16
returns-in-16 c = λ x rest h e. bare_found (codes "imply") x rest _ (sign_found x rest _ _ _ _ 16 (codes "imply") nothing h e c.next_piece.ensures.piece c.next_piece.ensures.left c.place_of.ensures c.in-16.is refl)

pub returns-in_default : goal.returns-in_default
returns-in_default c = λ x rest h e.
    let small : c.place_of.result < 18 = row_within signs _ _ (place_of_sign x rest _ _ _ h e c.next_piece.ensures.piece c.place_of.ensures) in
    let last : c.place_of.result ≡ 17 = search rules in
    bare_found (codes "with") x rest _ (sign_found x rest _ _ _ _ 17 (codes "with") nothing h e c.next_piece.ensures.piece c.next_piece.ensures.left c.place_of.ensures last refl)
