-- A text that goes on keeps its commands and its items.
use Rattle.std.proofs.Common.{◌≡◌, ℕ, List, ◌++◌, length, map, nat_le, Option, Some, None, refl, sym, ap, ◌∙◌, append_assoc, inl, inr}
use Rattle.std.proofs.lemmas.List.{map-append}
use Rattle.std.proofs.lemmas.Bool.{cases_Bool, leb-true}
use Rattle.ab_lex.specs.declared.scanner.Mode.TheVariants.{Plain}
use Rattle.ab_lex.specs.Scanner.{behind, run, fresh}
use Rattle.ab_lex.specs.Commands.{CommandAt, Splits, no_more, one_more, Item, item_of, items_of_rest, ItemsWithin, GoesOn}
use Rattle.ab_lex.proofs.Found.{commands, rest, items_within, items_behind}
use Rattle.ab_lex.proofs.Unique.{found}
use Rattle.ab_lex.proofs.Exists.{exists}
use Rattle.ab_lex.proofs.Cuts.{splits, only_one, only_items}
use Rattle.ab_lex.proofs.Items.{behind_append, items_long_rest}

command_on : {s r : List ℕ} (more : List ℕ) → CommandAt s r → CommandAt (s ++ more) (r ++ more)
command_on {s} {r} more c = exists (s ++ more) (r ++ more) (behind_append Plain s r more (found c))

-- the commands of a text, and then those of its rest with what comes
pub splits_on : {text left left' : List ℕ} {cs ds : List (List ℕ)} (more : List ℕ) → Splits text cs left → Splits (left ++ more) ds left' → Splits (text ++ more) (cs ++ ds) left'
splits_on more (no_more n) h = h
splits_on more (one_more {r = r} {c = c} a e g) h =
    one_more (command_on more a) (ap (λ q. q ++ more) e ∙ append_assoc c r more) (splits_on more g h)

no_command : (s : List ℕ) (o : Option (List ℕ)) → behind Plain s ≡ o → ((r : List ℕ) → ¬ CommandAt s r) → behind Plain s ≡ None
no_command s None e n = e
no_command s (Some r) e n = absurd (n r (exists s r e))

rest_has_none : {text left : List ℕ} {cs : List (List ℕ)} → Splits text cs left → behind Plain left ≡ None
rest_has_none (no_more {s = s} n) = no_command s (behind Plain s) refl n
rest_has_none (one_more c e h) = rest_has_none h

rest_items : (limit : ℕ) (s more : List ℕ) → behind Plain s ≡ None → (later : List Item) × (items_within limit (s ++ more) ≡ items_of_rest limit s ++ later)
rest_items limit s more e =
    elim (cases_Bool (nat_le limit (length s))) [
      | inl t ↦ (items_behind limit (behind (run fresh s).mode more), rw t (items_long_rest limit s e (leb-true limit (length s) t) more))
      | inr t ↦ (items_within limit (s ++ more), rw t)
    ]

found_on : (limit : ℕ) (text more : List ℕ) → GoesOn (items_within limit text) (items_within limit (text ++ more))
found_on limit text more =
    let h = splits text in
    let g = splits (rest text ++ more) in
    let e = only_one (splits (text ++ more)) (splits_on more h g) in
    let k = rest_items limit (rest text) more (rest_has_none h) in
    let f = item_of limit in
    let a = map f (commands text) in
    let b = map f (commands (rest text ++ more)) in
    let z = items_of_rest limit (rest (rest text ++ more)) in (
      k.0,
      ap (λ q. map f q ++ items_of_rest limit (rest (text ++ more))) e.0
          ∙ (ap (λ q. map f (commands text ++ commands (rest text ++ more)) ++ items_of_rest limit q) e.1
          ∙ (ap (λ q. q ++ z) (map-append f (commands text) (commands (rest text ++ more)))
          ∙ (append_assoc a b z
          ∙ (ap (λ q. a ++ q) k.1 ∙ sym (append_assoc a (items_of_rest limit (rest text)) k.0))))),
    )

pub items_on : (limit : ℕ) (text more : List ℕ) (is js : List Item) → ItemsWithin limit text is → ItemsWithin limit (text ++ more) js → GoesOn is js
items_on limit text more is js h k =
    let g = found_on limit text more in
    (g.0, only_items limit (text ++ more) js k ∙ (g.1 ∙ ap (λ q. q ++ g.0) (sym (only_items limit text is h))))
