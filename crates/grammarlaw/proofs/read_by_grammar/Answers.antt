use Rattle.std.proofs.Common.{◌≡◌, ℕ, List, Result, sym, subst}
use Rattle.grammarlaw.specs.Frames.{ReadLaws}
use Rattle.job.specs.Reading.{read_at, seen_answer, answer_of, next_of}
use Rattle.job.specs.declared.fault.ReadFault.{ReadFault}
use Rattle.jobgroups.specs.Commands.{CommandSeen}
use Rattle.grammarlaw.proofs.Fitting.{fits_if}
use Rattle.grammarlaw.proofs.Framing.{reading}
use Rattle.grammarlaw.proofs.Lawful.{laws}
use Rattle.grammarlaw.proofs.Table.{table_laid}
use Rattle.grammarlaw.proofs.Places.{one_place}
use Rattle.grammarlaw.proofs.Spelling.{spelled_if}
use Rattle.grammarlaw.proofs.Standing.{stand_if}
use Rattle.grammarlaw.proofs.Values.{meant_if}
use Rattle.grammarlaw.proofs.read_by_grammar.Goals as goal

grammar_of : (job : List ℕ) (at next : ℕ) (answer : Result CommandSeen ReadFault) →
    answer ≡ answer_of (read_at job at) → next ≡ next_of (read_at job at) → ReadLaws job at answer next
grammar_of job at next answer is goes =
    subst (λ r. ReadLaws job at r next) (sym is)
    (subst (ReadLaws job at (answer_of (read_at job at))) (sym goes) (reading job at))

pub returns : goal.returns
returns c =
    let grammar = grammar_of c.args.job.now c.args.at c.read.result.1 (seen_answer c.read.result.0)
    c.read.ensures.answer c.read.ensures.next in
    let fits = fits_if c.args.job.now c.args.at c.read.result.1 (seen_answer c.read.result.0) grammar.says in
    record {
      answer = c.read.ensures.answer;
      next = c.read.ensures.next;
      grammar = grammar;
      spelled = spelled_if c.args.job.now c.args.at c.read.result.1 (seen_answer c.read.result.0) grammar.says;
      fits = fits;
      meant = meant_if (seen_answer c.read.result.0) fits;
      stand = stand_if c.args.job.now c.args.at c.read.result.1 (seen_answer c.read.result.0) grammar.says;
      reading = reading;
      one_place = one_place;
      rows = laws;
      table = table_laid;
    }
