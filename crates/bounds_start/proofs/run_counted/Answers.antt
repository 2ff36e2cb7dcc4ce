use Rattle.bounds_start.proofs.run_counted.Goals as goal

pub returns : goal.returns
returns g c = record {
  runs = record {
    done = c.run.ensures.done;
    no = c.run.ensures.no;
    to_its_end = c.run.ensures.to_its_end;
    verdict = c.run.ensures.verdict;
    demo = c.run.ensures.demo;
    usage = c.run.ensures.usage;
    words_refused = c.run.ensures.words;
    input = c.run.ensures.input;
    read = c.run.ensures.read;
    write = c.run.ensures.write;
    complete = c.run.ensures.complete;
    nothing = c.run.ensures.nothing;
    prefix = c.run.ensures.prefix;
    untouched = c.run.ensures.untouched;
    most = c.run.ensures.most;
    reads = c.run.ensures.reads;
    no_fault = c.run.ensures.no_fault;
    no_write_fault = c.run.ensures.no_write_fault;
    continues = c.run.ensures.continues;
    told = c.run.ensures.told;
    silent = c.run.ensures.silent;
  };
}
