use Rattle.std.proofs.Common.{◌≡◌, sym, ◌∙◌, rules}
use Rattle.ab_cert.specs.Signs.{type_of, sign_of}
use Rattle.ab_cert.specs.Splits.{index_of}
use Rattle.ab_cert.proofs.Signing.{letters, letter_of, place_of_head, constant_found, logic_found, nominal_found, cell_found, index_found}
use Rattle.ab_cert.proofs.constants.read_head.Goals as goal

pub returns-in_ok-read-in-0 : goal.returns-in_ok-read-in-0
returns-in_ok-read-in-0 c = λ x rest h e. constant_found rest _ _ _ c.next_piece.ensures.left x c.in_ok-read-in-0.field-0 h e (sym (place_of_head x rest _ _ _ e c.next_piece.ensures.piece c.place_of.ensures) ∙ c.in-0.is) c.in_ok-read-in-0.ensures

pub returns-in_ok-read_sign-in-1 : goal.returns-in_ok-read_sign-in-1
returns-in_ok-read_sign-in-1 c = λ x rest h e. logic_found rest _ _ _ c.next_piece.ensures.left x (sign_of c.in_ok-read_sign-in-1.field-0) h e (sym (place_of_head x rest _ _ _ e c.next_piece.ensures.piece c.place_of.ensures) ∙ c.in-1.is) c.in_ok-read_sign-in-1.ensures

pub returns-in_ok-read-in-2 : goal.returns-in_ok-read-in-2
returns-in_ok-read-in-2 c = λ x rest h e. nominal_found rest _ _ _ c.next_piece.ensures.left x c.next_number-number.result (type_of c.in_ok-read-in-2.field-0) _ h e (sym (place_of_head x rest _ _ _ e c.next_piece.ensures.piece c.place_of.ensures) ∙ c.in-2.is) c.next_number-number.ensures c.in_ok-read-in-2.ensures

pub returns-in_ok-read-in-3 : goal.returns-in_ok-read-in-3
returns-in_ok-read-in-3 c = λ x rest h e. cell_found rest _ _ _ c.next_piece.ensures.left x c.in_ok-read-in-3.field-0 h e (sym (place_of_head x rest _ _ _ e c.next_piece.ensures.piece c.place_of.ensures) ∙ c.in-3.is) c.in_ok-read-in-3.ensures

pub returns-in_default : goal.returns-in_default
returns-in_default c = λ x rest h e.
    let at : c.place_of.result ≡ index_of letters (letter_of x) = place_of_head x rest _ _ _ e c.next_piece.ensures.piece c.place_of.ensures in
    index_found rest _ _ _ c.next_piece.ensures.left x _ h e
    (λ z. let same : c.place_of.result ≡ 0 = at ∙ z in absurd (search rules))
    (λ z. let same : c.place_of.result ≡ 1 = at ∙ z in absurd (search rules))
    (λ z. let same : c.place_of.result ≡ 2 = at ∙ z in absurd (search rules))
    (λ z. let same : c.place_of.result ≡ 3 = at ∙ z in absurd (search rules))
    c.next_count.ensures
