-- What `clap` says of the command: its fault and options; and the value of `--drill` is a number from 1 to 10,000.
use Rattle.std.specs.Prelude.{slice_get, option_map}
use Rattle.std.specs.Borrow.{Bor}
use Rattle.std.specs.List.{All, slice_index_or}
use Rattle.std.specs.Str.{bytes_eq}
use Rattle.std.proofs.Common.{◌≡◌, ◌<◌, ◌&&◌, not, inl, inr, ℕ, zero, suc, Bool, true, false, List, [], ◌∷◌, length, map, Option, Some, None, if◌then◌else◌, codes, refl, sym, ◌∙◌, ap, subst, arith}
use Rattle.std.proofs.lemmas.Bool.{eqb-true, ne_eqb}
use Rattle.std.proofs.lemmas.Slice.Eq.{bytes_eq-Decides}
use Rattle.std.proofs.lemmas.List.Elements.{All-head}
use Rattle.clap.specs.Words.{App, Rule, Text, Accepts, IsParsedFrom, IsUnsignedIn, app_of, args_of, first_value, found_of, groups_of, IsAmong, Kinds, first_of, is_simple, is_simple_and_free, matched_of, rows_of, rule_of}
use Rattle.clap.specs.Facts.{Entry, EntryPasses, PassesArg, parser_of, parser_of_value}
use Rattle.clap.specs.Built.{IsAuto}
use Rattle.clap.specs.Walk.{is_empty}
use Rattle.clap.specs.declared.builder.arg.Arg.{Arg}
use Rattle.clap.specs.declared.builder.command.Command.{Command}
use Rattle.clap.specs.declared.builder.command.Command.TheViews.{out-Command}
use Rattle.clap.specs.declared.builder.value_parser.ValueParser.{ValueParser}
use Rattle.clap.specs.declared.builder.value_parser.ValueParser.TheVariants as vp
use Rattle.clap.specs.declared.parser.matches.ArgMatches.{ArgMatches}
use Rattle.clap.specs.declared.parser.matches.MatchedArg.{MatchedArg}
use Rattle.clap.proofs.CallerLemmas.{entry_by_id, same_rules_by_id}
use Rattle.clap.proofs.WalkLemmas.{first_value-rows}
use Rattle.clap.specs.declared.error.kind.ErrorKind.{ErrorKind}
use Rattle.clap.specs.declared.parser.matches.Found.{Found}
use Rattle.clap.proofs.OnLiterals.{clap_on_literals}
use Rattle.ab_line.specs.Command.{quiet, drill, check_cert, file, simple_command}
use Rattle.ab_line.specs.Requests.{options_in, is_set, number_of}

first_of_both : (a b : Bool) → (a && b) ≡ true → a ≡ true
first_of_both true b e = refl
first_of_both false b e = e

-- the command is one of which `clap` says all
pub simple_and_free : is_simple_and_free simple_command ≡ true
unfolding simple_command clap_on_literals
simple_and_free = refl

-- what the program's line tells is what the words ask for, where `clap` found this
pub options_are : (f : Found) (q : Bool) (n : Option ℕ) (k : Bool) (x : Option Text) → q ≡ is_set (first_value f (codes "quiet")) → n ≡ option_map number_of (first_value f (codes "drill"))
    → k ≡ is_set (first_value f (codes "check-cert")) → x ≡ first_value f (codes "file") → options_in (rows_of f) ≡ record { quiet = q; drill = n; check_cert = k; file = x }
options_are f q n k x a b c d =
    ap (λ y. record { quiet = y; drill = option_map number_of (first_of (codes "drill") (rows_of f)); check_cert = is_set (first_of (codes "check-cert") (rows_of f)); file = first_of (codes "file") (rows_of f) })
    (sym (a ∙ ap is_set (first_value-rows f (codes "quiet"))))
    ∙ ap (λ y. record { quiet = q; drill = y; check_cert = is_set (first_of (codes "check-cert") (rows_of f)); file = first_of (codes "file") (rows_of f) })
    (sym (b ∙ ap (option_map number_of) (first_value-rows f (codes "drill"))))
    ∙ ap (λ y. record { quiet = q; drill = n; check_cert = y; file = first_of (codes "file") (rows_of f) }) (sym (c ∙ ap is_set (first_value-rows f (codes "check-cert"))))
    ∙ ap (λ y. record { quiet = q; drill = n; check_cert = k; file = y }) (sym (d ∙ first_value-rows f (codes "file")))

-- words with a fault ask for nothing
pub no_options : {X : Type 0} (k : ErrorKind) (ks : Kinds) (x : X) → IsAmong k ks → (if is_empty ks then Some x else None) ≡ None
no_options k [] x among = absurd among
no_options k (j ∷ js) x among =
    let some : is_empty (j ∷ js) ≡ false = ne_eqb (length (j ∷ js)) 0 (λ e. omega (arith, e)) in
    ap (λ t. if t then Some x else None) some

pub simple : is_simple simple_command ≡ true
simple = first_of_both (is_simple simple_command) _ simple_and_free

-- the arguments of the command
abbrev four : List Rule
four = quiet ∷ drill ∷ check_cert ∷ file ∷ []

rules_are : (c : Command) → app_of c ≡ simple_command → map rule_of (args_of c) ≡ four
unfolding simple_command
rules_are c is = ap (λ (a : App). a.top.rules) is

last_of_both : (a b : Bool) → (a && b) ≡ true → b ≡ true
last_of_both true b e = e
last_of_both false b e = absurd (cc)

no : (a : Bool) → not a ≡ true → a ≡ false
no true e = absurd (cc)
no false e = refl

plain_fields : (c : Command) → app_of c ≡ simple_command → (app_of c).top.is_plain ≡ true
unfolding simple_command
plain_fields c is = ap (λ (a : App). a.top.is_plain) is

nothing : {X : Type 0} (xs : List X) → is_empty xs ≡ true → xs ≡ []
nothing [] e = refl
nothing (x ∷ xs) e = absurd (omega (arith, eqb-true (length (x ∷ xs)) 0 e))

no_group : (c : Command) → app_of c ≡ simple_command → groups_of c ≡ []
no_group c is = nothing (groups_of c) (first_of_both _ _ (plain_fields c is))

no_global : (c : Command) → app_of c ≡ simple_command → (out-Command c).has_globals ≡ false
no_global c is = no (out-Command c).has_globals (first_of_both _ _ (last_of_both _ _ (last_of_both _ _ (plain_fields c is))))

at_map : {X Y : Type 0} (f : X → Y) (xs : List X) (j : ℕ) (d : X) → slice_index_or (map f xs) j (f d) ≡ f (slice_index_or xs j d)
at_map f [] j d = refl
at_map f (x ∷ xs) zero d = refl
at_map f (x ∷ xs) (suc j) d = at_map f xs j d

length_map : {X Y : Type 0} (f : X → Y) (xs : List X) → length (map f xs) ≡ length xs
length_map f [] = refl
length_map f (x ∷ xs) = ap suc (length_map f xs)

begins : (t u : Text) → t ≡ u → slice_index_or t 0 0 ≡ slice_index_or u 0 0
begins t u e = ap (λ x. slice_index_or x 0 0) e

only_second : (j : ℕ) (r : Rule) → j < 4 → (slice_index_or four j r).id ≡ codes "drill" → j ≡ 1
only_second zero r l e = let bad : ◌≡◌ {A = ℕ} 113 100 = begins (codes "quiet") (codes "drill") e in absurd (omega arith)
only_second (suc zero) r l e = refl
only_second (suc (suc zero)) r l e = let bad : ◌≡◌ {A = ℕ} 99 100 = begins (codes "check-cert") (codes "drill") e in absurd (omega arith)
only_second (suc (suc (suc zero))) r l e = let bad : ◌≡◌ {A = ℕ} 102 100 = begins (codes "file") (codes "drill") e in absurd (omega arith)
only_second (suc (suc (suc (suc j)))) r l e = absurd (omega (arith, l))

all_simple : (j : ℕ) (r : Rule) → j < 4 → (slice_index_or four j r).is_simple ≡ true
all_simple zero r l = refl
all_simple (suc zero) r l = refl
all_simple (suc (suc zero)) r l = refl
all_simple (suc (suc (suc zero))) r l = refl
all_simple (suc (suc (suc (suc j)))) r l = absurd (omega (arith, l))

module _ (c : Command) (is : app_of c ≡ simple_command) where
  how_many : length (args_of c) ≡ 4
  how_many = sym (length_map rule_of (args_of c)) ∙ ap length (rules_are c is)

  rule_at : (j : ℕ) (d : Arg) → rule_of (slice_index_or (args_of c) j d) ≡ slice_index_or four j (rule_of d)
  rule_at j d = sym (at_map rule_of (args_of c) j d) ∙ ap (λ rs. slice_index_or rs j (rule_of d)) (rules_are c is)

  names_no_group : All (λ (a : Arg). a.groups.items ≡ []) (args_of c)
  names_no_group k d l =
      let simple : (rule_of (slice_index_or (args_of c) k d)).is_simple ≡ true = ap (λ (r : Rule). r.is_simple) (rule_at k d) ∙ all_simple k (rule_of d) (omega (arith, l, how_many)) in
      nothing _ (first_of_both _ _ (last_of_both _ _ (last_of_both _ _ simple)))

  second_id : (d : Arg) → (slice_index_or (args_of c) 1 d).id.now ≡ codes "drill"
  second_id d = ap (λ (r : Rule). r.id) (rule_at 1 d)

  second_parser : (d : Arg) → (slice_index_or (args_of c) 1 d).value_parser ≡ Some (vp.Unsigned 1 10000)
  second_parser d = ap (λ (r : Rule). r.parser) (rule_at 1 d)

  unique : (d : Arg) (j : ℕ) (e : Arg) → j < length (args_of c) → bytes_eq (slice_index_or (args_of c) j e).id.now (slice_index_or (args_of c) 1 d).id.now ≡ true → j ≡ 1
  unique d j e l same =
      only_second j (rule_of e) (omega (arith, l, how_many))
      (ap (λ (r : Rule). r.id) (sym (rule_at j e)) ∙ (bytes_eq-Decides (slice_index_or (args_of c) j e).id.now (slice_index_or (args_of c) 1 d).id.now).0 same ∙ second_id d)

  own : (d : Arg) → IsAuto (slice_index_or (args_of c) 1 d) → ⊥
  own d auto = elim auto [
    | inl h ↦ let bad : ◌≡◌ {A = ℕ} 104 100 = begins (codes "help") (codes "drill") (sym h ∙ second_id d) in omega arith
    | inr h ↦ let bad : ◌≡◌ {A = ℕ} 118 100 = begins (codes "version") (codes "drill") (sym h ∙ second_id d) in omega arith
  ]

  module _ (m : ArgMatches) (p : IsParsedFrom c m) where
    no_groups : groups_of p.built ≡ []
    no_groups = (p.from.same_groups names_no_group).1 ∙ no_group c is

    passed : (t : Text) → PassesArg p.built (codes "drill") t → IsUnsignedIn 1 10000 t
    passed t any =
        let a = any.1 in
        let same : bytes_eq a.id.now (slice_index_or (args_of c) 1 a).id.now ≡ true = subst (λ (w : Text). bytes_eq any.1.id.now w ≡ true) (sym (second_id any.1)) any.4.0 in
        let rules = same_rules_by_id c m p 1 a (omega (arith, how_many)) (unique a) (own a) any.0 a any.2 any.3 same in
        let parser : parser_of a ≡ vp.Unsigned 1 10000 = ap parser_of_value (rules.parser (vp.Unsigned 1 10000) (second_parser a)) in
        subst (λ (q : ValueParser). Accepts a.ignore_case q t) parser any.4.1

    first_passes : (P : Text → Type 0) (vs : List (Bor Text)) (t : Text) → All (λ (v : Bor Text). P v.now) vs → option_map (λ (v : Bor Text). v.now) (slice_get vs 0) ≡ Some t → P t
    first_passes P [] t all e = absurd (cc)
    first_passes P (v ∷ vs) t all e = let same : v.now ≡ t = cc in subst P same (All-head (λ (w : Bor Text). P w.now) v vs all)

    at_entry : (x : MatchedArg) (e : Entry) (t : Text) → e.1 ≡ x → bytes_eq e.0.now (codes "drill") ≡ true → EntryPasses p.built e → option_map (λ (v : Bor Text). v.now) (slice_get x.vals.items 0) ≡ Some t → IsUnsignedIn 1 10000 t
    at_entry x e t same named pass first =
        let key : e.0.now ≡ codes "drill" = (bytes_eq-Decides e.0.now (codes "drill")).0 named in
        let no_group_entry : e.1.is_group ≡ true → ⊥ = λ g. elim (pass.3 g) [
          | inl empty ↦ let bad : ◌≡◌ {A = ℕ} 0 100 = begins [] (codes "drill") (sym empty ∙ key) in omega arith
          | inr lots ↦ let bad : 0 < 0 = rw no_groups at lots in omega arith
        ] in
        elim pass.0 [
          | inl g ↦ absurd (no_group_entry g)
          | inr vals ↦
              passed t
              (subst (λ (w : Text). PassesArg p.built w t) key
              (first_passes (PassesArg p.built e.0.now) e.1.vals.items t vals (ap (λ (y : MatchedArg). option_map (λ (v : Bor Text). v.now) (slice_get y.vals.items 0)) same ∙ first)))
        ]

    pub number_given : (t : Text) → first_value (found_of m) (codes "drill") ≡ Some t → IsUnsignedIn 1 10000 t
    number_given t found = go (matched_of (found_of m) (codes "drill")) refl
      where
        go : (o : Option MatchedArg) → matched_of (found_of m) (codes "drill") ≡ o → IsUnsignedIn 1 10000 t
        go None e = let bad : None ≡ Some t = rw e at found in absurd (cc)
        go (Some x) e =
            let parsed = p.parsed (p.from.globals ∙ no_global c is) in
            let got = entry_by_id (EntryPasses p.built) (found_of m).entries.items (codes "drill") x parsed.values e in
            at_entry x got.0 t got.1 got.2 got.3 (rw e at found)
