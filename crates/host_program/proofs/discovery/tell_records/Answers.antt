use Rattle.std.proofs.Common.{Ok, sym, ◌∙◌}
use Rattle.host_program.proofs.Had.{had_by}
use Rattle.host_program.proofs.discovery.tell_records.Goals as goal

pub returns-in-Some : goal.returns-in-Some
returns-in-Some g c = record {
  read = Ok tt;
  page = c.read_page.new.reading;
  stands = c.read_page.new.session;
  reads = c.in_ok-read_page.ensures;
  prints = record { page = c.in-Some.page; had = had_by _ _ (sym c.page.ensures ∙ c.in-Some.is); prints = c.print_had.ensures };
}
