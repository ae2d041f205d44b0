use Rattle.std.proofs.Common.{◌≤◌, length, ap, arith}
use Rattle.k_words.specs.Words.{words_of}
use Rattle.k_reader.proofs.Readers.{few_fields_read}
use Rattle.k_reader.proofs.reader.Reader.type_line.Goals as goal

pub invariant_of-self-in_err-declare_type : goal.invariant_of-self-in_err-declare_type
invariant_of-self-in_err-declare_type c =
    let words : length (words_of c.args.line.now) ≤ 18 = omega (arith, c.word_count-2.ensures, c.if-word_count-gt-MOST_WORDS.false) in
    let kept = c.in_err-declare_type.ensures.unchanged in
    record {
      few_fields = few_fields_read _ _ _ _ c.self.invariant.few_fields c.in_ok-fields.ensures words c.in_ok-push.ensures.stored;
      reserved = c.self.invariant.reserved;
      named = omega (arith, ap (λ n. length n.limits) kept, c.self.invariant.named);
      listed = omega (arith, ap (λ n. length n.procs) kept, c.self.invariant.listed);
    }

pub invariant_of-self-2 : goal.invariant_of-self-2
invariant_of-self-2 c =
    let words : length (words_of c.args.line.now) ≤ 18 = omega (arith, c.word_count-2.ensures, c.if-word_count-gt-MOST_WORDS.false) in
    let named = c.in_ok-declare_type.ensures.ok in
    record {
      few_fields = few_fields_read _ _ _ _ c.self.invariant.few_fields c.in_ok-fields.ensures words c.in_ok-push.ensures.stored;
      reserved = c.self.invariant.reserved;
      named = omega (arith, ap (λ n. length n.limits) named, c.self.invariant.named);
      listed = omega (arith, ap (λ n. length n.procs) named, c.self.invariant.listed);
    }
