-- The items of a text, as the text goes on.
use Rattle.std.proofs.Common.{◌≡◌, ◌+◌, ◌≤◌, ◌<◌, ℕ, cond, List, [], ◌∷◌, ◌++◌, length, Option, Some, None, refl, sym, ap, ◌∙◌, arith, inl, inr}
use Rattle.std.proofs.lemmas.List.{append-nil, append_cancel_right, length-append}
use Rattle.std.proofs.lemmas.Bool.{cases_Bool, le-leb, lt-leb}
use Rattle.ab_lex.specs.declared.scanner.Mode.{Mode}
use Rattle.ab_lex.specs.declared.scanner.Mode.TheVariants.{Plain}
use Rattle.ab_lex.specs.declared.scanner.Scan.{Scan}
use Rattle.ab_lex.specs.Scanner.{ends, step, behind, fresh, after_byte, run}
use Rattle.ab_lex.specs.Commands.{command, long, item_of}
use Rattle.ab_lex.proofs.Found.{commands, items_within, items_behind}
use Rattle.ab_lex.proofs.Cuts.{first_of_text, no_rest}

pub behind_append : (m : Mode) (s r more : List ℕ) → behind m s ≡ Some r → behind m (s ++ more) ≡ Some (r ++ more)
behind_append m [] r more e = cc
behind_append m (b ∷ s) r more e =
    elim (cases_Bool (ends m b)) [
      | inl t ↦ let f : Some s ≡ Some r = rw t at e in let g : s ≡ r = cc in rw (t, g)
      | inr t ↦ let f : behind (step m b) s ≡ Some r = rw t at e in rw t (behind_append (step m b) s r more f)
    ]

pub behind_on : (k : Scan) (s more : List ℕ) → behind k.mode s ≡ None → behind k.mode (s ++ more) ≡ behind (run k s).mode more
behind_on k [] more e = refl
behind_on k (b ∷ s) more e =
    elim (cases_Bool (ends k.mode b)) [
      | inl t ↦ let f : Some s ≡ None = rw t at e in cc
      | inr t ↦ let f : behind (step k.mode b) s ≡ None = rw t at e in rw t (behind_on (after_byte k b) s more f)
    ]

pub run_append : (k : Scan) (s t : List ℕ) → run k (s ++ t) ≡ run (run k s) t
run_append k [] t = refl
run_append k (b ∷ s) t = run_append (after_byte k b) s t

shorter : (m : Mode) (s r : List ℕ) → behind m s ≡ Some r → length r < length s
shorter m s r e =
    let k = first_of_text m [] s r e in
    let f = ap length k.front in
    let g = k.some in
    omega (arith, length-append {A = ℕ})

-- the first command of a text is an item, whatever comes after
pub items_first : (limit : ℕ) (s r : List ℕ) → behind Plain s ≡ Some r → (c : List ℕ) → s ≡ c ++ r → (more : List ℕ) → items_within limit (s ++ more) ≡ item_of limit c ∷ items_within limit (r ++ more)
items_first limit s r e c f more =
    let k = first_of_text Plain [] s r e in
    let same : k.bytes ≡ c = append_cancel_right k.bytes c r (sym k.front ∙ f) in
    let a : commands (s ++ more) ≡ c ∷ commands (r ++ more) = k.commands_are more ∙ ap (λ q. q ∷ commands (r ++ more)) same in
    rw (a, k.rest_is more)

pub items_whole : (limit : ℕ) (s r : List ℕ) → behind Plain s ≡ Some r → (c : List ℕ) → s ≡ c ++ r → length c ≤ limit → (more : List ℕ) → items_within limit (s ++ more) ≡ command c ∷ items_within limit (r ++ more)
items_whole limit s r e c f l more =
    items_first limit s r e c f more ∙ ap (λ t. cond t (command c) long ∷ items_within limit (r ++ more)) (le-leb (length c) limit l)

pub items_long : (limit : ℕ) (s r : List ℕ) → behind Plain s ≡ Some r → (c : List ℕ) → s ≡ c ++ r → limit < length c → (more : List ℕ) → items_within limit (s ++ more) ≡ long ∷ items_within limit (r ++ more)
items_long limit s r e c f l more =
    items_first limit s r e c f more ∙ ap (λ t. cond t (command c) long ∷ items_within limit (r ++ more)) (lt-leb (length c) limit l)

pub items_short : (limit : ℕ) (s : List ℕ) → behind Plain s ≡ None → length s < limit → items_within limit s ≡ []
items_short limit s e l =
    let k = no_rest Plain [] s e in
    rw (k.0, k.1, lt-leb limit (length s) l)

long_rest_at : (limit : ℕ) (s : List ℕ) (o : Option (List ℕ)) → limit ≤ length s → behind Plain s ≡ o → (n : ℕ) → ((r : List ℕ) → o ≡ Some r → limit + length r < length s) → items_within limit s ≡ long ∷ items_behind limit o
long_rest_at limit s None l e n h =
    let k = no_rest Plain [] s e in
    rw (k.0, k.1, le-leb limit (length s) l)
long_rest_at limit s (Some r) l e n h =
    let k = first_of_text Plain [] s r e in
    let f = ap length k.front in
    let g = h r refl in
    let big : limit < length k.bytes = omega (arith, length-append {A = ℕ}) in
    let a = items_long limit s r e k.bytes k.front big [] in
    ap (items_within limit) (sym (append-nil s)) ∙ (a ∙ ap (λ q. long ∷ items_within limit q) (append-nil r))

-- a long rest is an item, and what comes goes on behind it
pub items_long_rest : (limit : ℕ) (s : List ℕ) → behind Plain s ≡ None → limit ≤ length s → (more : List ℕ) → items_within limit (s ++ more) ≡ long ∷ items_behind limit (behind (run fresh s).mode more)
items_long_rest limit s e l more =
    let on = behind_on fresh s more e in
    let big : limit ≤ length (s ++ more) = omega (arith, length-append {A = ℕ}) in
    long_rest_at limit (s ++ more) (behind (run fresh s).mode more) big on 0
    (λ r h. let z = shorter (run fresh s).mode more r h in omega (arith, length-append {A = ℕ}))

pub long_ends : (limit : ℕ) (k : Scan) (s r : List ℕ) → behind k.mode s ≡ Some r → (more : List ℕ) → items_behind limit (behind k.mode (s ++ more)) ≡ items_within limit (r ++ more)
long_ends limit k s r e more = ap (items_behind limit) (behind_append k.mode s r more e)

pub long_goes_on : (limit : ℕ) (k : Scan) (s : List ℕ) → behind k.mode s ≡ None → (more : List ℕ) → items_behind limit (behind k.mode (s ++ more)) ≡ items_behind limit (behind (run k s).mode more)
long_goes_on limit k s e more = ap (items_behind limit) (behind_on k s more e)
