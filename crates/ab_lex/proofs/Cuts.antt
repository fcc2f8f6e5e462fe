-- The commands of a text are its splitting, and stay where the text goes on.
use Rattle.std.proofs.Common.{◌≡◌, ℕ, zero, suc, List, [], ◌∷◌, ◌++◌, Option, Some, None, refl, sym, ap, ◌∙◌, subst, arith, inl, inr, append_assoc, ◌≤◌, ◌<◌, length, map}
use Rattle.std.proofs.lemmas.List.{append-nil, append_cancel_right, length-append}
use Rattle.std.proofs.lemmas.Bool.{cases_Bool}
use Rattle.ab_lex.specs.declared.TheConstants.{COMMAND_LIMIT}
use Rattle.ab_lex.specs.declared.scanner.Mode.{Mode}
use Rattle.ab_lex.specs.declared.scanner.Mode.TheVariants.{Plain}
use Rattle.ab_lex.specs.Scanner.{ends, step, behind}
use Rattle.ab_lex.specs.Commands.{CommandAt, Splits, no_more, one_more, Item, item_of, items_of_rest, ItemsWithin, ItemsOf}
use Rattle.ab_lex.proofs.Found.{commands_from, rest_from, commands, rest, items_within}
use Rattle.ab_lex.proofs.Unique.{found, first_unique}
use Rattle.ab_lex.proofs.Exists.{exists}

-- where the first command ends in s, it is what came before and the bytes up to there
pub record First (m : Mode) (c s r : List ℕ) : Type 0 where
  pub bytes : List ℕ
  pub some : 0 < length bytes
  pub front : s ≡ bytes ++ r
  pub commands_are : (more : List ℕ) → commands_from m c (s ++ more) ≡ (c ++ bytes) ∷ commands (r ++ more)
  pub rest_is : (more : List ℕ) → rest_from m c (s ++ more) ≡ rest (r ++ more)

pub first_of_text : (m : Mode) (c s r : List ℕ) → behind m s ≡ Some r → First m c s r
first_of_text m c [] r e = cc
first_of_text m c (b ∷ s) r e =
    elim (cases_Bool (ends m b)) [
      | inl t ↦
          let f : Some s ≡ Some r = rw t at e in
          let g : s ≡ r = cc in
          record {
            bytes = b ∷ [];
            some = omega arith;
            front = ap (λ q. b ∷ q) g;
            commands_are = λ more. rw (t, g);
            rest_is = λ more. rw (t, g);
          }
      | inr t ↦
          let f : behind (step m b) s ≡ Some r = rw t at e in
          let k = first_of_text (step m b) (c ++ b ∷ []) s r f in
          record {
            bytes = b ∷ k.bytes;
            some = omega arith;
            front = ap (λ q. b ∷ q) k.front;
            commands_are = λ more. rw t (k.commands_are more ∙ ap (λ q. q ∷ commands (r ++ more)) (append_assoc c (b ∷ []) k.bytes));
            rest_is = λ more. rw t (k.rest_is more);
          }
    ]

pub no_rest : (m : Mode) (c s : List ℕ) → behind m s ≡ None → (commands_from m c s ≡ []) × (rest_from m c s ≡ c ++ s)
no_rest m c [] e = (refl, sym (append-nil c))
no_rest m c (b ∷ s) e =
    elim (cases_Bool (ends m b)) [
      | inl t ↦ let f : Some s ≡ None = rw t at e in cc
      | inr t ↦
          let f : behind (step m b) s ≡ None = rw t at e in
          let k = no_rest (step m b) (c ++ b ∷ []) s f in
          (rw t k.0, rw t (k.1 ∙ append_assoc c (b ∷ []) s))
    ]

split_at : (n : ℕ) (s : List ℕ) → length s ≤ n → (o : Option (List ℕ)) → behind Plain s ≡ o → Splits s (commands s) (rest s)
split_at n s l None e =
    let k = no_rest Plain [] s e in
    rw (k.0, k.1) (no_more (λ r (c : CommandAt s r). let f : Some r ≡ None = sym (found c) ∙ e in cc))
split_at zero s l (Some r) e =
    let k = first_of_text Plain [] s r e in
    let f = ap length k.front in
    let g = k.some in
    absurd (omega (arith, length-append {A = ℕ}))
split_at (suc n) s l (Some r) e =
    let k = first_of_text Plain [] s r e in
    let f = ap length k.front in
    let g = k.some in
    let less : length r ≤ n = omega (arith, length-append {A = ℕ}) in
    let a : commands s ≡ k.bytes ∷ commands r = ap commands (sym (append-nil s)) ∙ (k.commands_are [] ∙ ap (λ q. k.bytes ∷ commands q) (append-nil r)) in
    let b : rest s ≡ rest r = ap rest (sym (append-nil s)) ∙ (k.rest_is [] ∙ ap rest (append-nil r)) in
    rw (a, b) (one_more (exists s r e) k.front (split_at n r less (behind Plain r) refl))

-- each text has a splitting, and it is this one
pub splits : (s : List ℕ) → Splits s (commands s) (rest s)
splits s = split_at (length s) s (omega arith) (behind Plain s) refl

pub only_one : {s r q : List ℕ} {cs ds : List (List ℕ)} → Splits s cs r → Splits s ds q → (cs ≡ ds) × (r ≡ q)
only_one (no_more n) (no_more m) = (refl, refl)
only_one (no_more n) (one_more d e y) = absurd (n _ d)
only_one (one_more c e x) (no_more n) = absurd (n _ c)
only_one (one_more {s = s} {r = r} {rest = u} {c = a} {cs = cs} c e x) (one_more {r = q} {rest = v} {c = b} {cs = ds} d f y) =
    let g : r ≡ q = first_unique c d in
    let h : a ++ r ≡ b ++ r = sym e ∙ (f ∙ ap (λ p. b ++ p) (sym g)) in
    let k : a ≡ b = append_cancel_right a b r h in
    let i : (cs ≡ ds) × (u ≡ v) = only_one x (subst (λ p. Splits p ds v) (sym g) y) in
    let j : cs ≡ ds = i.0 in
    (cc, i.1)

pub items_of : (limit : ℕ) (text : List ℕ) → ItemsWithin limit text (items_within limit text)
items_of limit text = record { whole = commands text; rest = rest text; splits = splits text; items_are = refl }

pub only_items : (limit : ℕ) (text : List ℕ) (is : List Item) → ItemsWithin limit text is → is ≡ items_within limit text
only_items limit text is h =
    let e = only_one h.splits (splits text) in
    h.items_are ∙ (ap (λ cs. map (item_of limit) cs ++ items_of_rest limit h.rest) e.0 ∙ ap (λ r. map (item_of limit) (commands text) ++ items_of_rest limit r) e.1)

pub items_there : (limit : ℕ) (text : List ℕ) → (is : List Item) × ItemsWithin limit text is
items_there limit text = (items_within limit text, items_of limit text)

pub no_items : (is : List Item) → ItemsOf [] is → is ≡ []
no_items is h = only_items COMMAND_LIMIT [] is h
