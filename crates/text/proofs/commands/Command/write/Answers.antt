use Rattle.std.proofs.Common.{◌≡◌, ℕ, List, IfOk, string_bytes, sym, subst, rules}
use Rattle.std.proofs.lemmas.Result.{IfOk-weaker}
use Rattle.text.specs.Said.{said, written, Says}
use Rattle.text.proofs.Lines.{laws, back}
use Rattle.text.proofs.commands.Command.write.Goals as goal

pub returns : goal.returns
returns c =
    let bytes : IfOk c.format.result (λ line. string_bytes line ≡ written (said c.args.self.now)) = search rules in
    record {
      bytes = bytes;
      says = IfOk-weaker c.format.result _ _ (λ line e fits. subst (λ (l : List ℕ). Says l (said c.args.self.now)) (sym e) (back (said c.args.self.now) fits)) bytes;
      laws = laws;
    }
