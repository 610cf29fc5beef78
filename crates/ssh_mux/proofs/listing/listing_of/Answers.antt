use Rattle.std.proofs.Common.{refl}
use Rattle.conf_rules.specs.declared.command.Command.TheVariants as commands
use Rattle.std.proofs.lemmas.Result.{err_from_is_err_and}
use Rattle.ssh_mux.proofs.CauseLemmas.{all-ran, refused-cause, refused-runs, resolved-runs, unlisted-cause}
use Rattle.ssh_mux.proofs.PlaceLemmas.{failed-place, unlisted-place}
use Rattle.ssh_mux.proofs.ReadLemmas.{all-read, refused-reads, resolved-reads}
use Rattle.ssh_mux.proofs.RefusalLemmas.{list-found, list-refused, list-unlisted}
use Rattle.ssh_mux.proofs.listing.listing_of.Goals as goal

pub returns-in_err-settings : goal.returns-in_err-settings
returns-in_err-settings g c = let p = err_from_is_err_and c.from_residual.result c.from_residual.ensures.1 in rw (p.1, p.2) (record {
  exact = list-refused (g.F.Files.recorded c.args.files.now) (g.R.Runner.recorded c.args.runner.now) c.args.facts.now c.args.asked.now _ c.in_err-settings.ensures.exact;
  ran = refused-runs (g.F.Files.recorded c.args.files.now) (g.R.Runner.recorded c.args.runner.now) c.args.facts.now c.args.asked.now (commands.List c.args.asked.now) _ _ _ (λ m. refl) c.in_err-settings.ensures.ran;
  read = refused-reads (g.F.Files.recorded c.args.files.now) (g.R.Runner.recorded c.args.runner.now) c.args.facts.now c.args.asked.now _ _ _ c.in_err-settings.ensures.noted;
  place = failed-place (g.F.Files.recorded c.args.files.now) (g.R.Runner.recorded c.args.runner.now) c.args.facts.now c.args.asked.now _ _ _ _ _ c.in_err-settings.ensures.fault;
  cause = refused-cause _ _ _ _ _ c.in_err-settings.ensures.cause;
})

pub returns-in_err-text : goal.returns-in_err-text
returns-in_err-text g c = let p = err_from_is_err_and c.from_residual-in_err-text.result c.from_residual-in_err-text.ensures.1 in rw (p.1, p.2) (record {
  exact = list-unlisted (g.F.Files.recorded c.args.files.now) (g.R.Runner.recorded c.args.runner.now) c.args.facts.now c.args.asked.now _ _ c.in_ok-settings.ensures.exact (rw c.as_bytes.ensures at c.in_err-text.ensures.exact);
  ran = all-ran (tt {0}) _ _ _ _ (resolved-runs (tt {0}) (g.F.Files.recorded c.args.files.now) (g.R.Runner.recorded c.args.runner.now) c.args.facts.now c.args.asked.now (commands.List c.args.asked.now) _ _ (λ m. refl) c.in_ok-settings.ensures.ran);
  read = all-read (tt {0}) _ _ _ _ (resolved-reads (tt {0}) (g.F.Files.recorded c.args.files.now) (g.R.Runner.recorded c.args.runner.now) c.args.facts.now c.args.asked.now _ _ c.in_ok-settings.ensures.noted);
  place = unlisted-place _ _ _ _ _ _;
  cause = unlisted-cause _ _ _ _ _ c.in_ok-settings.ensures.cause;
})

pub returns : goal.returns
returns g c = record {
  exact = list-found (g.F.Files.recorded c.args.files.now) (g.R.Runner.recorded c.args.runner.now) c.args.facts.now c.args.asked.now _ _ c.in_ok-settings.ensures.exact (rw c.as_bytes.ensures at c.in_ok-text.ensures.exact);
  ran = resolved-runs _ (g.F.Files.recorded c.args.files.now) (g.R.Runner.recorded c.args.runner.now) c.args.facts.now c.args.asked.now (commands.List c.args.asked.now) _ _ (λ m. refl) c.in_ok-settings.ensures.ran;
  read = resolved-reads _ (g.F.Files.recorded c.args.files.now) (g.R.Runner.recorded c.args.runner.now) c.args.facts.now c.args.asked.now _ _ c.in_ok-settings.ensures.noted;
  place = tt;
  cause = c.in_ok-settings.ensures.cause;
}
