-- The first commands of a text, and what stands behind them.
use Rattle.std.proofs.Common.{◌≡◌, ◌≤◌, ◌<◌, ℕ, nat_le, List, [], ◌∷◌, ◌++◌, length, map, drop, Some, refl, sym, ap, ◌∙◌, subst, arith, append_assoc, inl, inr}
use Rattle.std.specs.List.{concat}
use Rattle.std.proofs.lemmas.List.{append_cancel_right, drop_at}
use Rattle.std.proofs.lemmas.Bool.{cases_Bool, leb-true, le-leb}
use Rattle.ab_io.specs.Replays.{IsCommand}
use Rattle.ab_lex.specs.declared.TheConstants.{COMMAND_LIMIT}
use Rattle.ab_lex.specs.declared.scanner.Mode.{Mode}
use Rattle.ab_lex.specs.declared.scanner.Mode.TheVariants.{Plain}
use Rattle.ab_lex.specs.Scanner.{ends, step, behind}
use Rattle.ab_lex.specs.Commands.{CommandAt, stop, unit, Splits, no_more, one_more, Item, command, long, item_of, items_of_rest, ItemsOf}
use Rattle.ab_lex.proofs.Unique.{found}
use Rattle.ab_lex.proofs.Exists.{exists}
use Rattle.ab_lex.proofs.Items.{behind_append}
use Rattle.ab_lex.proofs.Cuts.{only_items, items_there}
use Rattle.ab_edit.specs.Prefixes.{place_of, BeginsWith}

-- a command that stands at the front of a text is one by itself

cut : (m : Mode) (s r : List ℕ) → behind m s ≡ Some r → (bytes : List ℕ) × (s ≡ bytes ++ r) × (behind m bytes ≡ Some [])
cut m [] r e = cc
cut m (b ∷ s) r e =
    elim (cases_Bool (ends m b)) [
      | inl t ↦
          let f : Some s ≡ Some r = rw t at e in
          let g : s ≡ r = cc in
          (b ∷ [], ap (λ q. b ∷ q) g, rw t)
      | inr t ↦
          let f : behind (step m b) s ≡ Some r = rw t at e in
          let k = cut (step m b) s r f in
          (b ∷ k.0, ap (λ q. b ∷ q) k.1, rw t k.2)
    ]

pub one_command : (s r c : List ℕ) → CommandAt s r → s ≡ c ++ r → CommandAt c []
one_command s r c h e =
    let k = cut Plain s r (found h) in
    let same : k.0 ≡ c = append_cancel_right k.0 c r (sym k.1 ∙ e) in
    exists c [] (subst (λ q. behind Plain q ≡ Some []) same k.2)

pub command_on : {c : List ℕ} (more : List ℕ) → CommandAt c [] → CommandAt (c ++ more) more
command_on {c} more h = exists (c ++ more) more (behind_append Plain c [] more (found h))

pub some_bytes : {s r : List ℕ} → CommandAt s r → 0 < length s
some_bytes (stop e) = omega arith
some_bytes (unit ne u h) = omega arith

-- each of these is a command, and not too long
abbrev pub AreCommands : List (List ℕ) → Type 0
AreCommands [] = Unit {0}
AreCommands (k ∷ ks) = IsCommand k × AreCommands ks

pub commands_before : (ks ls : List (List ℕ)) → AreCommands (ks ++ ls) → AreCommands ks
commands_before [] ls a = tt
commands_before (k ∷ ks) ls a = (a.0, commands_before ks ls a.1)

pub commands_behind : (ks ls : List (List ℕ)) → AreCommands (ks ++ ls) → AreCommands ls
commands_behind [] ls a = a
commands_behind (k ∷ ks) ls a = commands_behind ks ls a.1

-- the commands `ks` stand first in a text that splits so, and `later` are the items behind them
pub record Front (text rest : List ℕ) (whole ks : List (List ℕ)) (later : List Item) : Type 0 where
  pub left : List ℕ
  pub parts : text ≡ concat ks ++ left
  pub commands : AreCommands ks
  pub others : List (List ℕ)
  pub whole_is : whole ≡ ks ++ others
  pub splits : Splits left others rest
  pub items_are : later ≡ map (item_of COMMAND_LIMIT) others ++ items_of_rest COMMAND_LIMIT rest

pub record First (limit : ℕ) (text rest c : List ℕ) (whole : List (List ℕ)) (is : List Item) : Type 0 where
  pub left : List ℕ
  pub parts : text ≡ c ++ left
  pub at : CommandAt c []
  pub short : length c ≤ limit
  pub others : List (List ℕ)
  pub whole_is : whole ≡ c ∷ others
  pub splits : Splits left others rest
  pub items_are : is ≡ map (item_of limit) others ++ items_of_rest limit rest

first_of : (limit : ℕ) {text rest : List ℕ} {whole : List (List ℕ)} → Splits text whole rest → (c : List ℕ) (is : List Item) → command c ∷ is ≡ map (item_of limit) whole ++ items_of_rest limit rest → First limit text rest c whole is
first_of limit (no_more {s = s} n) c is e =
    elim (cases_Bool (nat_le limit (length s))) [
      | inl t ↦ let f : command c ∷ is ≡ long ∷ [] = rw t at e in cc
      | inr t ↦ let f : command c ∷ is ≡ [] = rw t at e in cc
    ]
first_of limit (one_more {s = s} {r = r} {rest = rest} {c = d} {cs = ds} a e x) c is f =
    elim (cases_Bool (nat_le (length d) limit)) [
      | inl t ↦
          let g : command c ∷ is ≡ command d ∷ (map (item_of limit) ds ++ items_of_rest limit rest) = rw t at f in
          let same : d ≡ c = cc in
          let tail : is ≡ map (item_of limit) ds ++ items_of_rest limit rest = cc in
          let parts : s ≡ c ++ r = e ∙ ap (λ q. q ++ r) same in
          record {
            left = r;
            parts = parts;
            at = one_command s r c a parts;
            short = subst (λ (q : List ℕ). length q ≤ limit) same (leb-true (length d) limit t);
            others = ds;
            whole_is = ap (λ q. q ∷ ds) same;
            splits = x;
            items_are = tail;
          }
      | inr t ↦ let g : command c ∷ is ≡ long ∷ (map (item_of limit) ds ++ items_of_rest limit rest) = rw t at f in cc
    ]

pub front_of : (ks : List (List ℕ)) {text rest : List ℕ} {whole : List (List ℕ)} → Splits text whole rest → (later : List Item) → map command ks ++ later ≡ map (item_of COMMAND_LIMIT) whole ++ items_of_rest COMMAND_LIMIT rest → Front text rest whole ks later
front_of [] {text} {rest} {whole} h later e = record { left = text; parts = refl; commands = tt; others = whole; whole_is = refl; splits = h; items_are = e }
front_of (k ∷ ks) h later e =
    let f = first_of COMMAND_LIMIT h k (map command ks ++ later) e in
    let g = front_of ks f.splits later f.items_are in
    record {
      left = g.left;
      parts = f.parts ∙ (ap (λ q. k ++ q) g.parts ∙ sym (append_assoc k (concat ks) g.left));
      commands = (record { whole = f.at; short = f.short }, g.commands);
      others = g.others;
      whole_is = f.whole_is ∙ ap (λ q. k ∷ q) g.whole_is;
      splits = g.splits;
      items_are = g.items_are;
    }

-- the front of a text that these commands and items follow
pub front : (text : List ℕ) (ks : List (List ℕ)) (later : List Item) (h : BeginsWith text ks later) → Front text h.rest h.whole ks later
front text ks later h = front_of ks h.splits later h.items_are

pub items_left : {text rest : List ℕ} {whole ks : List (List ℕ)} {later : List Item} (f : Front text rest whole ks later) → ItemsOf f.left later
items_left {rest = rest} f = record { whole = f.others; rest = rest; splits = f.splits; items_are = f.items_are }

pub left_is : {text rest : List ℕ} {whole ks : List (List ℕ)} {later : List Item} (f : Front text rest whole ks later) → drop (place_of ks) text ≡ f.left
left_is {ks = ks} f = ap (drop (place_of ks)) f.parts ∙ drop_at (concat ks) f.left (place_of ks) refl

-- commands that are put before a text are its first

follow_one : (k t : List ℕ) (is : List Item) → IsCommand k → ItemsOf t is → ItemsOf (k ++ t) (command k ∷ is)
follow_one k t is a h =
    let whole : command k ∷ is ≡ map (item_of COMMAND_LIMIT) (k ∷ h.whole) ++ items_of_rest COMMAND_LIMIT h.rest = rw (le-leb (length k) COMMAND_LIMIT a.short) (ap (λ q. command k ∷ q) h.items_are) in
    record { whole = k ∷ h.whole; rest = h.rest; splits = one_more (command_on t a.whole) refl h.splits; items_are = whole }

pub put_before : (ks : List (List ℕ)) (t : List ℕ) (later : List Item) → AreCommands ks → ItemsOf t later → BeginsWith (concat ks ++ t) ks later
put_before [] t later a h = h
put_before (k ∷ ks) t later a h =
    subst (λ q. ItemsOf q (command k ∷ (map command ks ++ later))) (sym (append_assoc k (concat ks) t)) (follow_one k (concat ks ++ t) (map command ks ++ later) a.0 (put_before ks t later a.1 h))

pub follows_some : (ks : List (List ℕ)) (t : List ℕ) → AreCommands ks → (later : List Item) × BeginsWith (concat ks ++ t) ks later
follows_some ks t a = let z = items_there COMMAND_LIMIT t in (z.0, put_before ks t z.0 a z.1)

-- a text has one list of items
pub one_list : (text : List ℕ) (is js : List Item) → ItemsOf text is → ItemsOf text js → is ≡ js
one_list text is js h k = only_items COMMAND_LIMIT text is h ∙ sym (only_items COMMAND_LIMIT text js k)
