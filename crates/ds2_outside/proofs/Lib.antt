mod TearLemmas
