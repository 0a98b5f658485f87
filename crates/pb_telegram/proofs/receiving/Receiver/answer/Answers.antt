use Rattle.std.proofs.Common.{rules, ◌≡◌, ◌<◌, Some, None, Err}
use Rattle.pb_telegram.specs.declared.faults.TelegramFault.TheVariants.{Faulty}
use Rattle.pb_telegram.proofs.Ended.{answers, bad_fault}
use Rattle.pb_telegram.proofs.OneTelegram.{finds_what_is_spelled}
use Rattle.pb_telegram.proofs.receiving.Receiver.answer.Goals as goal

pub returns-in-Some-clause-spelled : goal.returns-in-Some-clause-spelled
returns-in-Some-clause-spelled c =
    let some : 0 < c.args.self.now.fed = search rules in
    let bad : c.args.self.now.bad ≡ Some c.in-Some.place = search rules in
    λ chars s. finds_what_is_spelled chars (Err (Faulty c.in-Some.place)) tt (bad_fault c.args.self.now chars c.in-Some.place s some bad)

pub returns-in-Some-clause-fault : goal.returns-in-Some-clause-fault
returns-in-Some-clause-fault c =
    let some : 0 < c.args.self.now.fed = search rules in
    let bad : c.args.self.now.bad ≡ Some c.in-Some.place = search rules in
    λ chars s. bad_fault c.args.self.now chars c.in-Some.place s some bad

pub returns-in-None-clause-telegram : goal.returns-in-None-clause-telegram
returns-in-None-clause-telegram c =
    let some : 0 < c.args.self.now.fed = search rules in
    let good : c.args.self.now.bad ≡ None = search rules in
    let found = c.telegram.ensures in
    λ chars s. (answers c.args.self.now chars c.telegram.result s some good found).telegram

pub returns-in-None-clause-sound : goal.returns-in-None-clause-sound
returns-in-None-clause-sound c =
    let some : 0 < c.args.self.now.fed = search rules in
    let good : c.args.self.now.bad ≡ None = search rules in
    let found = c.telegram.ensures in
    λ chars s. (answers c.args.self.now chars c.telegram.result s some good found).sound

pub returns-in-None-clause-spelled : goal.returns-in-None-clause-spelled
returns-in-None-clause-spelled c =
    let some : 0 < c.args.self.now.fed = search rules in
    let good : c.args.self.now.bad ≡ None = search rules in
    let found = c.telegram.ensures in
    λ chars s. let a = answers c.args.self.now chars c.telegram.result s some good found in
    finds_what_is_spelled chars c.telegram.result a.telegram a.fault

pub returns-in-None-clause-fault : goal.returns-in-None-clause-fault
returns-in-None-clause-fault c =
    let some : 0 < c.args.self.now.fed = search rules in
    let good : c.args.self.now.bad ≡ None = search rules in
    let found = c.telegram.ensures in
    λ chars s. (answers c.args.self.now chars c.telegram.result s some good found).fault
