use Rattle.std.proofs.Common.{[], length, ap, arith}
use Rattle.k_limits.proofs.Lists.{length_push}
use Rattle.k_reader.proofs.reader.Reader.proc_line.Goals as goal

pub invariant_of-self : goal.invariant_of-self
invariant_of-self c = rw c.in_err-add_process.ensures.unchanged c.self.invariant

pub invariant_of-self-in_err-push : goal.invariant_of-self-in_err-push
invariant_of-self-in_err-push c =
    let operations = c.self.inside.operations.operations in
    let more = ap (λ o. length o.operations) c.in_ok-add_process.ensures.ok in
    record {
      few_fields = c.self.invariant.few_fields;
      reserved = c.self.invariant.reserved;
      named = c.self.invariant.named;
      listed = omega (arith, more, length_push operations [], c.self.invariant.listed);
    }

pub invariant_of-self-in_err-declare_proc : goal.invariant_of-self-in_err-declare_proc
invariant_of-self-in_err-declare_proc c =
    let operations = c.self.inside.operations.operations in
    let more = ap (λ o. length o.operations) c.in_ok-add_process.ensures.ok in
    let kept = c.in_err-declare_proc.ensures.unchanged in
    record {
      few_fields = c.self.invariant.few_fields;
      reserved = c.self.invariant.reserved;
      named = omega (arith, ap (λ n. length n.limits) kept, c.self.invariant.named);
      listed = omega (arith, ap (λ n. length n.procs) kept, more, length_push operations [], c.self.invariant.listed);
    }

pub invariant_of-self-2 : goal.invariant_of-self-2
invariant_of-self-2 c =
    let operations = c.self.inside.operations.operations in
    let procs = c.self.inside.names.procs in
    let more = ap (λ o. length o.operations) c.in_ok-add_process.ensures.ok in
    let named = c.in_ok-declare_proc.ensures.ok in
    record {
      few_fields = c.self.invariant.few_fields;
      reserved = c.self.invariant.reserved;
      named = omega (arith, ap (λ n. length n.limits) named, c.self.invariant.named);
      listed = omega (arith, ap (λ n. length n.procs) named, length_push procs c.word-name.result.now, more, length_push operations [], c.self.invariant.listed);
    }
