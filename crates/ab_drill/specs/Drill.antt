-- THE SCRIPT OF THE DRILL: nine declarations, and then theorems about numbers and lists by turns.
use Rattle.std.specs.Prelude.{ℕ, zero, suc, ◌+◌, ◌%◌, ◌==◌, List, [], ◌++◌, codes, decimal, if◌then◌else◌}

abbrev pub declarations : List ℕ
declarations = codes "Kind nat, lst type. Type z nat. Type s nat -> nat. Type nl lst. Type cn nat -> lst -> lst.\n"
    ++ codes "Define nat : nat -> prop by nat z ; nat (s N) := nat N.\nDefine plus : nat -> nat -> nat -> prop by plus z N N ; plus (s M) N (s K) := plus M N K.\n"
    ++ codes "Define list : lst -> prop by list nl ; list (cn X L) := list L.\nDefine app : lst -> lst -> lst -> prop by app nl L L ; app (cn X L) K (cn X M) := app L K M.\n"

-- what the theorem of an odd number says is about numbers, and what that of an even one says about lists
abbrev pub statement : ℕ → List ℕ
statement i = if i % 2 == 1 then codes " : forall N, nat N -> plus N z N." else codes " : forall L, list L -> app L nl L."

-- a theorem with its proof, whose last step is taken, taken back, and taken again
abbrev pub theorem : ℕ → List ℕ
theorem i = codes "Theorem t" ++ decimal i ++ statement i ++ codes " induction on 1. intros. case H1. search. apply IH to H2. search. #back. search.\n"

-- the first so many theorems
abbrev pub theorems : ℕ → List ℕ
theorems zero = []
theorems (suc n) = theorems n ++ theorem (n + 1)

-- THE SCRIPT of so many theorems
abbrev pub script : ℕ → List ℕ
script n = declarations ++ theorems n
