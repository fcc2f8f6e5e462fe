-- Heads that stay.
use Rattle.ab_store.specs.declared.node.Head.{Head}
use Rattle.ab_store.specs.declared.node.Head.TheVariants.{Cell}
use Rattle.ab_store.specs.declared.node.Node.{Node}
use Rattle.ab_store.specs.declared.node.Node.TheVariants.{Lam, Spine}
use Rattle.ab_store.specs.Reading.{Contents}
use Rattle.ab_store.specs.Bindings.{IsUnbound}

-- the head is no bound cell
abbrev pub IsFree : Contents → Head → Type 0
IsFree store (Cell c) = IsUnbound store c
IsFree store _ = Unit {0}

-- no bound cell is the head of the node
abbrev pub BeginsFree : Contents → Node → Type 0
BeginsFree store (Lam a x t) = Unit {0}
BeginsFree store (Spine h ts) = IsFree store h
