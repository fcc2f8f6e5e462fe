-- THE KERNEL: the rules on shared terms, and derivations with open goals.
-- What the function of a rule answers, by the rule's row in `ab_theory`.
pub mod StandsAgain
-- What a proof stands for: its nodes, and how its fields hold them.
pub mod Nodes
pub mod NodeTrees
pub mod Debts
pub mod Layout
-- Libraries that the crates above name through this one.
pub use Rattle.ab_judgements
pub use Rattle.ab_rules
