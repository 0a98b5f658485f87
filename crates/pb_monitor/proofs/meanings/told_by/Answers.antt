use Rattle.std.proofs.Common.{Ok, [], sym, ap, ◌∙◌}
use Rattle.pb_monitor.specs.Meanings.{arrival_in, meaning_of}
use Rattle.pb_monitor.proofs.meanings.told_by.Goals as goal

pub returns-in-Short : goal.returns-in-Short
returns-in-Short c = c.asks.ensures c.in-Short.short.da [] ∙ ap (λ t. meaning_of (arrival_in (Ok t))) (sym c.in-Short.is)

pub returns-in-Var : goal.returns-in-Var
returns-in-Var c = c.asks-in-Var.ensures c.in-Var.var.da c.in-Var.var.unit.items ∙ ap (λ t. meaning_of (arrival_in (Ok t))) (sym c.in-Var.is)

pub returns-in-Fixed8 : goal.returns-in-Fixed8
returns-in-Fixed8 c = c.asks-in-Fixed8.ensures c.in-Fixed8.fixed.da c.in-Fixed8.fixed.unit ∙ ap (λ t. meaning_of (arrival_in (Ok t))) (sym c.in-Fixed8.is)
