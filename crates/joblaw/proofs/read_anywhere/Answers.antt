use Rattle.std.proofs.Common.{◌++◌, sym, ap, ◌∙◌}
use Rattle.job.specs.Reading.{read_at, answer_of}
use Rattle.joblaw.specs.Located.{shifted}
use Rattle.joblaw.proofs.Commands.{anywhere}
use Rattle.joblaw.proofs.read_anywhere.Goals as goal

pub returns : goal.returns
returns c =
    record {
      answer = c.read.ensures.answer;
      next = c.read.ensures.next;
      alike = λ pre whole post is at-is w short.
          c.read.ensures.answer
          ∙ ap (λ job. answer_of (read_at job c.args.at)) is
          ∙ ap (λ at. answer_of (read_at (pre ++ (whole ++ post)) at)) at-is
          ∙ ap answer_of (anywhere pre whole post w short)
          ∙ ap (λ at. answer_of (shifted at (read_at whole 0))) (sym at-is);
      anywhere = anywhere;
    }
