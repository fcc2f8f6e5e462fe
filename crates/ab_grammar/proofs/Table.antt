-- What the proofs need of the table.
use Rattle.std.proofs.Common.{◌≡◌, ℕ, zero, suc, subst, ◌≤◌, ap, sym, ◌∙◌, refl, arith}
use Rattle.ab_grammar.specs.declared.Infix.{Infix}
use Rattle.ab_grammar.specs.declared.Infix.TheVariants.{Arrow, Or, And, Equal, Imply, With, Cons}
use Rattle.ab_grammar.specs.Grammar.{Group, to_left, to_right, not_at_all, group_of, left_in, right_in, level, left, right}

pub level_low : (o : Infix) → 1 ≤ level o
level_low Arrow = omega arith
level_low Or = omega arith
level_low And = omega arith
level_low Imply = omega arith
level_low With = omega arith
level_low Cons = omega arith
level_low Equal = omega arith

pub level_high : (o : Infix) → suc (level o) ≤ 8
level_high Arrow = omega arith
level_high Or = omega arith
level_high And = omega arith
level_high Imply = omega arith
level_high With = omega arith
level_high Cons = omega arith
level_high Equal = omega arith

abbrev group_at : ℕ → Group
group_at (suc (suc zero)) = to_left
group_at (suc (suc (suc zero))) = to_left
group_at (suc (suc (suc (suc zero)))) = not_at_all
group_at (suc (suc (suc (suc (suc (suc zero)))))) = to_left
group_at n = to_right

-- signs of one level group alike
group_is : (o : Infix) → group_of o ≡ group_at (level o)
group_is Arrow = refl
group_is Or = refl
group_is And = refl
group_is Imply = refl
group_is With = refl
group_is Cons = refl
group_is Equal = refl

in_left : (g : Group) (l : ℕ) → l ≤ left_in g l
in_left to_left l = omega arith
in_left to_right l = omega arith
in_left not_at_all l = omega arith

in_right : (g : Group) (l : ℕ) → l ≤ right_in g l
in_right to_left l = omega arith
in_right to_right l = omega arith
in_right not_at_all l = omega arith

in_left_high : (g : Group) (l : ℕ) → left_in g l ≤ suc l
in_left_high to_left l = omega arith
in_left_high to_right l = omega arith
in_left_high not_at_all l = omega arith

pub left_low : (o : Infix) → level o ≤ left o
left_low o = in_left (group_of o) (level o)

pub right_low : (o : Infix) → level o ≤ right o
right_low o = in_right (group_of o) (level o)

in_right_high : (g : Group) (l : ℕ) → right_in g l ≤ suc l
in_right_high to_left l = omega arith
in_right_high to_right l = omega arith
in_right_high not_at_all l = omega arith

pub right_high : (o : Infix) → right o ≤ 8
right_high o = let a : right o ≤ suc (level o) = in_right_high (group_of o) (level o) in let b = level_high o in omega arith

pub left_high : (o : Infix) → left o ≤ 8
left_high o = let a : left o ≤ suc (level o) = in_left_high (group_of o) (level o) in let b = level_high o in omega arith

one_side : (g : Group) (l : ℕ) → right_in g l ≤ l → left_in g l ≤ l → ⊥
one_side to_left l a b = omega arith
one_side to_right l a b = omega arith
one_side not_at_all l a b = omega arith

-- where a text may be the right operand of p, and what p joins the left operand of o, nothing tells which
pub not_both : (o p : Infix) → right p ≤ level o → left o ≤ level p → ⊥
not_both o p a b =
    let al = left_low o in
    let ar = right_low p in
    let same : level p ≡ level o = omega arith in
    let groups : group_of p ≡ group_of o = group_is p ∙ ap group_at same ∙ sym (group_is o) in
    one_side (group_of o) (level o)
    (subst (λ (g : Group). right_in g (level o) ≤ level o) groups (subst (λ (n : ℕ). right_in (group_of p) n ≤ level o) same a))
    (subst (λ (n : ℕ). left o ≤ n) same b)
